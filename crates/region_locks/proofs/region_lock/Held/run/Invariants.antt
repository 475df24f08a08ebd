use Rattle.step_count.specs.Tokens.{view_of_pass}
use Rattle.region_locks.specs.StepOrders.{step_of}
use Rattle.region_locks.specs.StepEntries.{entry_of}
use Rattle.region_locks.proofs.region_lock.Held.run.Given as goal

abbrev pub ghosts-entered : goal.ghosts-entered
ghosts-entered g a = record { entry = entry_of (view_of_pass a.pass.now) (step_of a.order.now) a.reply.now }
