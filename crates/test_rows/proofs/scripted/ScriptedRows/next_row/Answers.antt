use Rattle.std.proofs.Common.{subst, sym}
use Rattle.cell_model.specs.Seen.{Waited}
use Rattle.cell_solo.specs.Turns.{sight}
use Rattle.test_rows.specs.Sharing.{Scene}
use Rattle.test_rows.proofs.Passing.{wait_step, if_ok, range_waits}
use Rattle.test_rows.proofs.scripted.ScriptedRows.next_row.Goals as goal

pub next_row-requires : goal.next_row-requires
next_row-requires c = record { range = range_waits (sight c.args.self.now.shared.solo) (sight c.self.inside.shared.solo) c.args.table c.args.from.now c.args.to.now (subst (λ (v : Scene). Waited (sight c.args.self.now.shared.solo) (sight v.shared.solo)) (sym c.self.view_is) c.let_others.ensures.waits) c.requires.range }

pub returns-clause-ok : goal.returns-clause-ok
returns-clause-ok c = if_ok c.next_row.result
    (λ v steps. wait_step _ _ _ _ _ (subst (λ (v : Scene). Waited (sight c.args.self.now.shared.solo) (sight v.shared.solo)) (sym c.self.view_is) c.let_others.ensures.waits) steps.stepped)
    c.next_row.ensures.steps
