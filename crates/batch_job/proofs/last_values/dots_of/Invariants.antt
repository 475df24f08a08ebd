use Rattle.std.proofs.Common.{◌≡◌, ◌++◌}
use Rattle.batch_job.proofs.last_values.dots_of.Given as goal

abbrev pub invariant-loop-time : goal.invariant-loop-time
invariant-loop-time l = l.dots ++ l.time-iterator ≡ l.values.entries
