use Rattle.std.proofs.Common.{sym, ap, ◌∙◌}
use Rattle.cell_model.specs.Store.{Store, content_at}
use Rattle.cell_laws.specs.StoreParts.{is_in}
use Rattle.cell_laws.proofs.PartLemmas.{content-part}
use Rattle.cell_region.specs.RegionLists.{cells_in, store_of_all}
use Rattle.cell_region.proofs.RegionSteps.{of_number, covered, part_here, still_complete, stamped_whole}
use Rattle.cell_model.proofs.CallerLemmas.{stamped_widths}
use Rattle.cell_region.proofs.store_regions.RegionsBody.stamp.Goals as goal

pub stamp-requires-clause-covered : goal.stamp-requires-clause-covered
stamp-requires-clause-covered c = covered c.self.inside.widths c.self.inside.data_regions c.self.inside.regions.items c.self.invariant c.number_of-number.result c.index_mut-region.result.now c.number_of-number.ensures.among c.index_mut-region.ensures.value c.args.row.now (of_number c.self.inside.widths c.self.inside.data_regions c.number_of-number.result c.args.row.now c.list.result.now c.number_of-number.ensures.number c.list.ensures)

pub stamp-requires-clause-there : goal.stamp-requires-clause-there
stamp-requires-clause-there c = λ none. c.requires.there (rw (← c.self.view_is) (sym (content-part (is_in c.self.inside.widths c.self.inside.data_regions c.number_of-number.result) (store_of_all c.self.inside.widths c.self.inside.regions.items) c.args.row.now c.args.qual.now (of_number c.self.inside.widths c.self.inside.data_regions c.number_of-number.result c.args.row.now c.list.result.now c.number_of-number.ensures.number c.list.ensures)) ∙ ap (λ s. content_at s c.args.row.now c.args.qual.now) (sym (part_here c.self.inside.widths c.self.inside.data_regions c.self.inside.regions.items c.self.invariant c.number_of-number.result c.index_mut-region.result.now c.number_of-number.ensures.among c.index_mut-region.ensures.value)) ∙ none))

pub invariant_of-self : goal.invariant_of-self
invariant_of-self c = still_complete c.self.inside.widths c.self.inside.data_regions c.self.inside.regions.items c.self.invariant c.number_of-number.result c.index_mut-region.result.now c.number_of-number.ensures.among c.index_mut-region.ensures.value c.stamp.new.self c.stamp.ensures.covers (ap (λ (s : Store). s.widths) c.stamp.ensures.content ∙ stamped_widths (cells_in c.index_mut-region.result.now) c.args.row.now c.args.qual.now c.args.place)

pub returns-clause-content : goal.returns-clause-content
returns-clause-content c =
    rw (← c.self.view_is) (stamped_whole c.self.inside.widths c.self.inside.data_regions c.self.inside.regions.items c.self.invariant c.number_of-number.result c.index_mut-region.result.now c.number_of-number.ensures.among c.index_mut-region.ensures.value c.stamp.new.self c.args.row.now c.args.qual.now c.args.place (of_number c.self.inside.widths c.self.inside.data_regions c.number_of-number.result c.args.row.now c.list.result.now c.number_of-number.ensures.number c.list.ensures) c.stamp.ensures.content)
