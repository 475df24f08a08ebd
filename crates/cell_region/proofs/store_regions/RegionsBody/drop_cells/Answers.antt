use Rattle.std.proofs.Common.{ap, ◌∙◌}
use Rattle.cell_model.specs.declared.events.Step.TheVariants.{DropCells}
use Rattle.cell_model.specs.Store.{Store, drop_count}
use Rattle.cell_laws.specs.StoreParts.{is_in}
use Rattle.cell_laws.proofs.PartLemmas.{drop_count-part}
use Rattle.cell_region.specs.RegionLists.{store_of_all}
use Rattle.cell_region.proofs.RegionSteps.{of_number, covered, part_here, still_complete, stepped}
use Rattle.cell_region.proofs.store_regions.RegionsBody.drop_cells.Goals as goal

pub drop_cells-requires-clause-covered : goal.drop_cells-requires-clause-covered
drop_cells-requires-clause-covered c = covered c.self.inside.widths c.self.inside.data_regions c.self.inside.regions.items c.self.invariant c.number_of-number.result c.index_mut-region.result.now c.number_of-number.ensures.among c.index_mut-region.ensures.value c.args.row.now (of_number c.self.inside.widths c.self.inside.data_regions c.number_of-number.result c.args.row.now c.list.result.now c.number_of-number.ensures.number c.list.ensures)

pub invariant_of-self : goal.invariant_of-self
invariant_of-self c = still_complete c.self.inside.widths c.self.inside.data_regions c.self.inside.regions.items c.self.invariant c.number_of-number.result c.index_mut-region.result.now c.number_of-number.ensures.among c.index_mut-region.ensures.value c.drop_cells.new.self c.drop_cells.ensures.covers (ap (λ (s : Store). s.widths) c.drop_cells.ensures.content)

pub returns-clause-count : goal.returns-clause-count
returns-clause-count c =
    rw (← c.self.view_is)
    (c.drop_cells.ensures.count ∙ ap (λ s. drop_count s c.args.row.now c.args.which.now) (part_here c.self.inside.widths c.self.inside.data_regions c.self.inside.regions.items c.self.invariant c.number_of-number.result c.index_mut-region.result.now c.number_of-number.ensures.among c.index_mut-region.ensures.value)
    ∙ drop_count-part (is_in c.self.inside.widths c.self.inside.data_regions c.number_of-number.result) (store_of_all c.self.inside.widths c.self.inside.regions.items) c.args.row.now c.args.which.now (of_number c.self.inside.widths c.self.inside.data_regions c.number_of-number.result c.args.row.now c.list.result.now c.number_of-number.ensures.number c.list.ensures))

pub returns-clause-content : goal.returns-clause-content
returns-clause-content c =
    rw (← c.self.view_is)
    (stepped c.self.inside.widths c.self.inside.data_regions c.self.inside.regions.items c.self.invariant c.number_of-number.result c.index_mut-region.result.now c.number_of-number.ensures.among c.index_mut-region.ensures.value c.drop_cells.new.self (DropCells c.args.row.now c.args.which.now) (of_number c.self.inside.widths c.self.inside.data_regions c.number_of-number.result c.args.row.now c.list.result.now c.number_of-number.ensures.number c.list.ensures) c.drop_cells.ensures.content)
