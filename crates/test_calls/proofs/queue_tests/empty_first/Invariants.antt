use Rattle.std.specs.Prelude.{◌≡◌}
use Rattle.test_calls.proofs.queue_tests.empty_first.Given as goal

abbrev pub invariant-loop : goal.invariant-loop
invariant-loop g l = l.mine.parts ≡ l.fn.mine.parts
