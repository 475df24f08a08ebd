use Rattle.cell_model.specs.declared.events.Step.TheVariants.{PutMerged}
use Rattle.cell_region.proofs.Answered.{on_ok, still}
use Rattle.cell_region.proofs.RegionSteps.{of_number, covered, still_complete, stepped}
use Rattle.std.proofs.Common.{refl}
use Rattle.cell_model.specs.Store.{Store}
use Rattle.cell_region.proofs.store_regions.Regions.load.Goals as goal

pub load-requires-clause-covered : goal.load-requires-clause-covered
load-requires-clause-covered c = covered c.self.inside.widths c.self.inside.data_regions c.self.inside.regions.items c.self.invariant c.number_of-number.result c.index_mut-region.result.now c.number_of-number.ensures.among c.index_mut-region.ensures.value (record { table = c.args.line.now.table; bytes = c.args.line.now.row }) (of_number c.self.inside.widths c.self.inside.data_regions c.number_of-number.result (record { table = c.args.line.now.table; bytes = c.args.line.now.row }) c.list.result.now c.number_of-number.ensures.number c.list.ensures)

pub invariant_of-self : goal.invariant_of-self
invariant_of-self c = still_complete c.self.inside.widths c.self.inside.data_regions c.self.inside.regions.items c.self.invariant c.number_of-number.result c.index_mut-region.result.now c.number_of-number.ensures.among c.index_mut-region.ensures.value c.load.new.self c.load.ensures.rows (still c.load.result (λ (s : Store). s.widths) _ _ _ c.load.ensures.ok c.load.ensures.err refl)

pub returns-clause-ok : goal.returns-clause-ok
returns-clause-ok c =
    rw (← c.self.view_is)
    (on_ok c.load.result _ _ (stepped c.self.inside.widths c.self.inside.data_regions c.self.inside.regions.items c.self.invariant c.number_of-number.result c.index_mut-region.result.now c.number_of-number.ensures.among c.index_mut-region.ensures.value c.load.new.self (PutMerged (record { table = c.args.line.now.table; bytes = c.args.line.now.row }) c.args.line.now.qual c.args.line.now.value) (of_number c.self.inside.widths c.self.inside.data_regions c.number_of-number.result (record { table = c.args.line.now.table; bytes = c.args.line.now.row }) c.list.result.now c.number_of-number.ensures.number c.list.ensures)) c.load.ensures.ok)
