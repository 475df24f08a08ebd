use Rattle.compactor.proofs.Draining.{no_memory, no_row, row_done}
use Rattle.compactor.proofs.queue_drain.drain_one.Goals as goal

pub returns-in_default-clause-made : goal.returns-in_default-clause-made
returns-in_default-clause-made g c = no_memory c.args.before (g.R.Rows.seen c.args.rows.now) c.args.queue.now c.in_default.ensures.err

pub returns-in_default-next-clause-made : goal.returns-in_default-next-clause-made
returns-in_default-next-clause-made g c = no_row c.args.before (g.R.Rows.seen c.args.rows.now) c.args.queue.now (rw c.in_default-next.is at c.in-Ok.ensures.next)

pub returns-clause-made : goal.returns-clause-made
returns-clause-made g c = row_done c.args.before (g.R.Rows.seen c.args.rows.now) (g.R.Rows.seen c.compact_queued.new.rows) c.args.queue.now c.pop.new.self c.in-Some.row c.in_ok-conflict.conflict c.pop.result (rw c.in-Some.is at c.in-Ok.ensures.next) c.in_ok-conflict.ensures.made c.pop.ensures.first
