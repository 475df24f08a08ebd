use Rattle.std.proofs.Common.{ℕ}
use Rattle.lerp_aggregate.specs.Walks.{next_of}
use Rattle.lerp_aggregate.proofs.Finding.{Found, left_of}
use Rattle.lerp_aggregate.proofs.aggregation.walk_on.Given as goal

abbrev pub invariant-loop-time : goal.invariant-loop-time
invariant-loop-time l = (T : ℕ) × Found l.how l.list l.walk l.dots T

abbrev pub decreases-loop-time : goal.decreases-loop-time
decreases-loop-time l = left_of (next_of l.walk)
