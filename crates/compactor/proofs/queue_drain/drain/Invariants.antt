use Rattle.compactor.proofs.Draining.{Draining}
use Rattle.compactor.proofs.queue_drain.drain.Given as goal

abbrev pub invariant-loop-done : goal.invariant-loop-done
invariant-loop-done g l = Draining l.before (g.R.Rows.seen l.initial.rows) (g.R.Rows.seen l.rows) (g.R.Rows.stops l.initial.rows) (g.R.Rows.stops l.rows) l.initial.queue l.queue l.done l.conflicts
