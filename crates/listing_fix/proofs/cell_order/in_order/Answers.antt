use Rattle.std.proofs.Common.{rules}
use Rattle.std.proofs.lemmas.List.MinMax.{ranks_by}
use Rattle.std.proofs.lemmas.List.Sorted.{answers_always}
use Rattle.cell_model.specs.Rising.{place_of_line}
use Rattle.cell_model.proofs.CallerLemmas.{places_total}
use Rattle.listing_fix.specs.Sorts.{is_before}
use Rattle.listing_fix.proofs.Sorting.{with_firsts}
use Rattle.listing_fix.proofs.cell_order.in_order.Goals as goal

pub returns : goal.returns
returns c =
    let closure = answers_always _ _ _ (λ f a r next called. search rules) in
    let order = ranks_by places_total place_of_line in
    with_firsts c.args.cells.items c.sort_by.new.self.items c.keep_firsts.new.cells.items (c.in_ok-sort_by.ensures.sorted is_before order closure) (c.in_ok-sort_by.ensures.stable is_before order closure) c.keep_firsts.ensures
