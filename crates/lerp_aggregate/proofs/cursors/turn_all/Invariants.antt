use Rattle.lerp_aggregate.proofs.Bundling.{Turned}
use Rattle.lerp_aggregate.proofs.cursors.turn_all.Given as goal

abbrev pub invariant-loop-i : goal.invariant-loop-i
invariant-loop-i l = Turned l.list l.between l.time l.initial.cursors l.initial.tally l.i l.cursors l.tally l.next
