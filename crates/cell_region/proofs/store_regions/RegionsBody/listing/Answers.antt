use Rattle.std.proofs.Common.{List, ap, subst, ◌∙◌, rules}
use Rattle.std.specs.List.Sorted.{IsPermutation}
use Rattle.std.proofs.lemmas.List.MinMax.{ranks_by}
use Rattle.std.proofs.lemmas.List.Sorted.{answers_always}
use Rattle.list_lemmas.proofs.ListCuts.{take_whole}
use Rattle.cell_model.specs.declared.row.ListLine.{ListLine}
use Rattle.cell_model.specs.declared.row.Listing.{Listing}
use Rattle.cell_model.specs.Rising.{place_of_line}
use Rattle.cell_model.proofs.CallerLemmas.{places_total}
use Rattle.cell_region.proofs.Answered.{answers}
use Rattle.cell_region.proofs.RegionOrder.{is_before, lines_among, lines_of_all, lines_rise}
use Rattle.cell_region.proofs.store_regions.RegionsBody.listing.Goals as goal

pub listing_of-requires : goal.listing_of-requires
listing_of-requires c =
    let all = c.loop-region.invariant ∙ ap lines_among (take_whole c.deref.result.now c.loop-region.region-index c.loop-region-test.false ∙ c.deref.ensures.value) in
    let closure = answers_always _ _ _ (λ f a r next called. search rules) in
    lines_rise c.self.inside.widths c.self.inside.data_regions c.self.inside.regions.items c.self.invariant c.sort_by.new.self.items (subst (λ (l : List ListLine). IsPermutation l c.sort_by.new.self.items) all c.sort_by.ensures.permutation) (c.in_ok-sort_by.ensures.sorted is_before (ranks_by places_total place_of_line) closure)

pub returns : goal.returns
returns c =
    let all = c.loop-region.invariant ∙ ap lines_among (take_whole c.deref.result.now c.loop-region.region-index c.loop-region-test.false ∙ c.deref.ensures.value) in
    let closure = answers_always _ _ _ (λ f a r next called. search rules) in
    rw (← c.self.view_is)
    (answers c.listing_of.result (λ (l : Listing). l) _ _
    (λ j. record { widths = c.self.inside.widths; lines = lines_of_all c.self.inside.widths c.self.inside.data_regions c.self.inside.regions.items c.self.invariant c.sort_by.new.self.items (subst (λ (l : List ListLine). IsPermutation l c.sort_by.new.self.items) all c.sort_by.ensures.permutation) (c.in_ok-sort_by.ensures.sorted is_before (ranks_by places_total place_of_line) closure) j })
    c.listing_of.ensures)
