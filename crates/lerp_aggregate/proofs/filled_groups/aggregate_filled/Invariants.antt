use Rattle.lerp_aggregate.proofs.Filled.{Filling}
use Rattle.lerp_aggregate.proofs.filled_groups.aggregate_filled.Given as goal

abbrev pub invariant-loop-place : goal.invariant-loop-place
invariant-loop-place l = Filling l.how l.list l.interval l.first l.place l.walk l.dots
