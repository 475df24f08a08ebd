use Rattle.std.specs.Prelude.{◌≡◌}
use Rattle.test_calls.proofs.queue_tests.feed.Given as goal

abbrev pub invariant-loop-number : goal.invariant-loop-number
invariant-loop-number g l = l.mine.parts ≡ l.fn.mine.parts
