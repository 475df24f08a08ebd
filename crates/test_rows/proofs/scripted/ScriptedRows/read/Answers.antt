use Rattle.std.proofs.Common.{subst, sym}
use Rattle.cell_model.specs.Seen.{Waited}
use Rattle.cell_solo.specs.Turns.{sight}
use Rattle.test_rows.specs.Sharing.{Scene}
use Rattle.test_rows.proofs.Passing.{wait_step, if_ok}
use Rattle.test_rows.proofs.scripted.ScriptedRows.read.Goals as goal

pub returns-clause-ok : goal.returns-clause-ok
returns-clause-ok c = if_ok c.read.result
    (λ v steps. wait_step _ _ _ _ _ (subst (λ (v : Scene). Waited (sight c.args.self.now.shared.solo) (sight v.shared.solo)) (sym c.self.view_is) c.let_others.ensures.waits) steps.stepped)
    c.read.ensures.steps
