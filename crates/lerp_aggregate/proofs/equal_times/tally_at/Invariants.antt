use Rattle.lerp_aggregate.proofs.Placing.{Counted}
use Rattle.lerp_aggregate.proofs.equal_times.tally_at.Given as goal

abbrev pub invariant-loop-dots : goal.invariant-loop-dots
invariant-loop-dots l = Counted l.list l.place l.time l.initial.tally l.dots-index l.tally
