use Rattle.test_rows.specs.Sharing.IsOneStep.{one}
use Rattle.test_rows.proofs.step.find.Goals as goal

pub returns-in-Ok : goal.returns-in-Ok
returns-in-Ok c = one c.in-Ok.ensures.steps
