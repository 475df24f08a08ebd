use Rattle.std.proofs.Common.{sym, subst}
use Rattle.cell_model.specs.declared.row.Row.{Row}
use Rattle.cell_model.specs.Lawful.{DropBasis}
use Rattle.cell_model.specs.Seen.{KnowsCell}
use Rattle.cell_solo.specs.Turns.{sight}
use Rattle.test_rows.specs.Sharing.IsOneStep.{one}
use Rattle.test_rows.proofs.Allowing.{some_is}
use Rattle.test_rows.proofs.step.drop_cells.Goals as goal

pub drop_cells-requires-clause-knows : goal.drop_cells-requires-clause-knows
drop_cells-requires-clause-knows c = subst (λ (row : Row). DropBasis (KnowsCell (sight c.args.shared.now.solo) row) row c.in-Some.which) (sym c.in_ok-again.ensures)
    (some_is _ _ _ c.in-Some.is c.in_ok-which.ensures (sight c.args.shared.now.solo) c.facts.ensures.hold)

pub returns-in-Ok : goal.returns-in-Ok
returns-in-Ok c = one c.in-Ok.ensures.steps
