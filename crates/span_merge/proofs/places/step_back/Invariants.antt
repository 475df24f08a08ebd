use Rattle.std.proofs.Common.{◌≡◌, length}
use Rattle.span_merge.specs.Places.{LastIsAbove, spans_of}
use Rattle.span_merge.proofs.places.step_back.Given as goal

abbrev pub invariant-loop-before : goal.invariant-loop-before
invariant-loop-before l =
    (spans_of l.before.items l.behind.items ≡ spans_of l.initial.before.items l.initial.behind.items)
    × LastIsAbove l.pairs l.behind.items

abbrev pub decreases-loop-before : goal.decreases-loop-before
decreases-loop-before l = length l.before.items
