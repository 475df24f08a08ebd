use Rattle.std.proofs.Common.{rules}
use Rattle.step_count.proofs.WordSteps.{learns}
use Rattle.step_count.proofs.steps.Pass.learn.Goals as goal

pub load-requires : goal.load-requires
load-requires c = (search rules, search rules, learns _ _ _ _)
