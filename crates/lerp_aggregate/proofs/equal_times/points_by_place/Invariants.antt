use Rattle.lerp_aggregate.proofs.Placing.{Placed}
use Rattle.lerp_aggregate.proofs.equal_times.points_by_place.Given as goal

abbrev pub invariant-loop-place : goal.invariant-loop-place
invariant-loop-place l = Placed l.how l.list l.first l.place l.dots
