use Rattle.std.specs.Prelude.{◌≡◌}
use Rattle.test_calls.proofs.queue_tests.sum_left.Given as goal

abbrev pub invariant-loop : goal.invariant-loop
invariant-loop g l = (l.put.parts ≡ l.fn.put.parts) × (l.taken.parts ≡ l.fn.taken.parts)
