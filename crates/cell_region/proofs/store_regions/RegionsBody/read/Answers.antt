use Rattle.std.proofs.Common.{ap, ◌∙◌}
use Rattle.cell_model.specs.Store.{cells_of}
use Rattle.cell_laws.specs.StoreParts.{is_in}
use Rattle.cell_laws.proofs.PartLemmas.{cells-part}
use Rattle.cell_region.specs.RegionLists.{store_of_all}
use Rattle.cell_region.proofs.Answered.{answers}
use Rattle.cell_region.proofs.RegionSteps.{of_number, covered, part_here}
use Rattle.cell_region.proofs.store_regions.RegionsBody.read.Goals as goal

pub read-requires : goal.read-requires
read-requires c = record { covered = covered c.self.inside.widths c.self.inside.data_regions c.self.inside.regions.items c.self.invariant c.number_of-number.result c.index-region.result.now c.number_of-number.ensures.among c.index-region.ensures c.args.row.now (of_number c.self.inside.widths c.self.inside.data_regions c.number_of-number.result c.args.row.now c.list.result.now c.number_of-number.ensures.number c.list.ensures) }

pub returns : goal.returns
returns c =
    rw (← c.self.view_is)
    (answers c.read.result (λ cells. cells) _ _
    (ap (λ s. cells_of s c.args.row.now) (part_here c.self.inside.widths c.self.inside.data_regions c.self.inside.regions.items c.self.invariant c.number_of-number.result c.index-region.result.now c.number_of-number.ensures.among c.index-region.ensures) ∙ cells-part (is_in c.self.inside.widths c.self.inside.data_regions c.number_of-number.result) (store_of_all c.self.inside.widths c.self.inside.regions.items) c.args.row.now (of_number c.self.inside.widths c.self.inside.data_regions c.number_of-number.result c.args.row.now c.list.result.now c.number_of-number.ensures.number c.list.ensures))
    c.read.ensures)
