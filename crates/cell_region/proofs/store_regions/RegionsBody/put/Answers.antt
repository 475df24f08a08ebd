use Rattle.cell_model.specs.declared.events.Step.TheVariants.{PutMerged}
use Rattle.cell_region.proofs.Answered.{on_ok, on_err, still}
use Rattle.cell_region.proofs.RegionSteps.{of_number, covered, still_complete, stepped, unchanged}
use Rattle.std.proofs.Common.{refl}
use Rattle.cell_model.specs.Store.{Store}
use Rattle.cell_region.proofs.store_regions.RegionsBody.put.Goals as goal

pub put-requires-clause-covered : goal.put-requires-clause-covered
put-requires-clause-covered c = covered c.self.inside.widths c.self.inside.data_regions c.self.inside.regions.items c.self.invariant c.number_of-number.result c.index_mut-region.result.now c.number_of-number.ensures.among c.index_mut-region.ensures.value c.args.row.now (of_number c.self.inside.widths c.self.inside.data_regions c.number_of-number.result c.args.row.now c.list.result.now c.number_of-number.ensures.number c.list.ensures)

pub invariant_of-self : goal.invariant_of-self
invariant_of-self c = still_complete c.self.inside.widths c.self.inside.data_regions c.self.inside.regions.items c.self.invariant c.number_of-number.result c.index_mut-region.result.now c.number_of-number.ensures.among c.index_mut-region.ensures.value c.put.new.self c.put.ensures.covers (still c.put.result (λ (s : Store). s.widths) _ _ _ c.put.ensures.ok c.put.ensures.err refl)

pub returns-clause-ok : goal.returns-clause-ok
returns-clause-ok c =
    rw (← c.self.view_is)
    (on_ok c.put.result _ _ (stepped c.self.inside.widths c.self.inside.data_regions c.self.inside.regions.items c.self.invariant c.number_of-number.result c.index_mut-region.result.now c.number_of-number.ensures.among c.index_mut-region.ensures.value c.put.new.self (PutMerged c.args.row.now c.args.qual.now c.args.value.now) (of_number c.self.inside.widths c.self.inside.data_regions c.number_of-number.result c.args.row.now c.list.result.now c.number_of-number.ensures.number c.list.ensures)) c.put.ensures.ok)

pub returns-clause-err : goal.returns-clause-err
returns-clause-err c = rw (← c.self.view_is) (on_err c.put.result _ _ (unchanged c.self.inside.widths c.self.inside.data_regions c.self.inside.regions.items c.self.invariant c.number_of-number.result c.index_mut-region.result.now c.number_of-number.ensures.among c.index_mut-region.ensures.value c.put.new.self) c.put.ensures.err)
