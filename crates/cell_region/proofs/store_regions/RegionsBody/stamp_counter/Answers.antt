use Rattle.std.proofs.Common.{sym, ap, ◌∙◌, refl, arith}
use Rattle.cell_model.specs.Store.{Store, content_at}
use Rattle.cell_model.specs.Machine.{counter_row, kind_qual}
use Rattle.cell_laws.specs.StoreParts.{is_in}
use Rattle.cell_laws.proofs.PartLemmas.{content-part}
use Rattle.cell_region.specs.RegionLists.{cells_in, store_of_all}
use Rattle.cell_region.proofs.RegionSteps.{covered, part_here, still_complete, stamped_whole}
use Rattle.cell_model.proofs.CallerLemmas.{stamped_widths}
use Rattle.cell_region.proofs.store_regions.RegionsBody.stamp_counter.Goals as goal

pub stamp_counter-requires-clause-covered : goal.stamp_counter-requires-clause-covered
stamp_counter-requires-clause-covered c = covered c.self.inside.widths c.self.inside.data_regions c.self.inside.regions.items c.self.invariant 0 c.index_mut-counters.result.now (omega arith) c.index_mut-counters.ensures.value counter_row refl

pub stamp_counter-requires-clause-there : goal.stamp_counter-requires-clause-there
stamp_counter-requires-clause-there c = λ none. c.requires.there (rw (← c.self.view_is) (sym (content-part (is_in c.self.inside.widths c.self.inside.data_regions 0) (store_of_all c.self.inside.widths c.self.inside.regions.items) counter_row (kind_qual c.args.kind) (refl)) ∙ ap (λ s. content_at s counter_row (kind_qual c.args.kind)) (sym (part_here c.self.inside.widths c.self.inside.data_regions c.self.inside.regions.items c.self.invariant 0 c.index_mut-counters.result.now (omega arith) c.index_mut-counters.ensures.value)) ∙ none))

pub invariant_of-self : goal.invariant_of-self
invariant_of-self c = still_complete c.self.inside.widths c.self.inside.data_regions c.self.inside.regions.items c.self.invariant 0 c.index_mut-counters.result.now (omega arith) c.index_mut-counters.ensures.value c.stamp_counter.new.self c.stamp_counter.ensures.covers (ap (λ (s : Store). s.widths) c.stamp_counter.ensures.content ∙ stamped_widths (cells_in c.index_mut-counters.result.now) counter_row (kind_qual c.args.kind) c.args.place)

pub returns-clause-content : goal.returns-clause-content
returns-clause-content c =
    rw (← c.self.view_is) (stamped_whole c.self.inside.widths c.self.inside.data_regions c.self.inside.regions.items c.self.invariant 0 c.index_mut-counters.result.now (omega arith) c.index_mut-counters.ensures.value c.stamp_counter.new.self counter_row (kind_qual c.args.kind) c.args.place refl c.stamp_counter.ensures.content)
