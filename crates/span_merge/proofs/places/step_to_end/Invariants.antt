use Rattle.std.proofs.Common.{◌≡◌, length}
use Rattle.span_merge.specs.Places.{spans_of}
use Rattle.span_merge.proofs.places.step_to_end.Given as goal

abbrev pub invariant-loop-behind : goal.invariant-loop-behind
invariant-loop-behind l = spans_of l.before.items l.behind.items ≡ spans_of l.initial.before.items l.initial.behind.items

abbrev pub decreases-loop-behind : goal.decreases-loop-behind
decreases-loop-behind l = length l.behind.items
