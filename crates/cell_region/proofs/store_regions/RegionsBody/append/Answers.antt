use Rattle.std.proofs.Common.{refl}
use Rattle.std.specs.Prelude.{[], false, pos}
use Rattle.cell_model.specs.declared.events.Step.TheVariants.{AppendPoint}
use Rattle.cell_model.specs.Store.{Store}
use Rattle.cell_region.proofs.Answered.{on_ok, on_err, still}
use Rattle.cell_region.proofs.RegionSteps.{of_number, covered, still_complete, stepped, unchanged}
use Rattle.cell_region.proofs.store_regions.RegionsBody.append.Goals as goal

pub append-requires-clause-covered : goal.append-requires-clause-covered
append-requires-clause-covered c = covered c.self.inside.widths c.self.inside.data_regions c.self.inside.regions.items c.self.invariant c.number_of-number.result c.index_mut-region.result.now c.number_of-number.ensures.among c.index_mut-region.ensures.value c.args.row.now (of_number c.self.inside.widths c.self.inside.data_regions c.number_of-number.result c.args.row.now c.list.result.now c.number_of-number.ensures.number c.list.ensures)

pub invariant_of-self : goal.invariant_of-self
invariant_of-self c = still_complete c.self.inside.widths c.self.inside.data_regions c.self.inside.regions.items c.self.invariant c.number_of-number.result c.index_mut-region.result.now c.number_of-number.ensures.among c.index_mut-region.ensures.value c.append.new.self c.append.ensures.covers (still c.append.result (λ (s : Store). s.widths) _ _ _ c.append.ensures.ok c.append.ensures.err refl)

-- what an append makes doesn't depend on the point
pub returns-clause-ok : goal.returns-clause-ok
returns-clause-ok c =
    rw (← c.self.view_is)
    (on_ok c.append.result _ _ (stepped c.self.inside.widths c.self.inside.data_regions c.self.inside.regions.items c.self.invariant c.number_of-number.result c.index_mut-region.result.now c.number_of-number.ensures.among c.index_mut-region.ensures.value c.append.new.self (AppendPoint (record { metric = []; tags = []; time = 0; fine = false; value = pos 0 }) c.args.row.now c.args.piece.now) (of_number c.self.inside.widths c.self.inside.data_regions c.number_of-number.result c.args.row.now c.list.result.now c.number_of-number.ensures.number c.list.ensures)) c.append.ensures.ok)

pub returns-clause-err : goal.returns-clause-err
returns-clause-err c = rw (← c.self.view_is) (on_err c.append.result _ _ (unchanged c.self.inside.widths c.self.inside.data_regions c.self.inside.regions.items c.self.invariant c.number_of-number.result c.index_mut-region.result.now c.number_of-number.ensures.among c.index_mut-region.ensures.value c.append.new.self) c.append.ensures.err)
