use Rattle.weave_script.proofs.QueueGains.{gains_none, gains_row}
use Rattle.weave_script.proofs.operations.put_named.Goals as goal

pub returns-in-Ok : goal.returns-in-Ok
returns-in-Ok g c = record { queue = gains_row c.args.queue.now c.put_queued.new.queue c.in-Ok.ensures.ok.stored c.in-Ok.ensures.ok.rows }

pub returns-in-Err-OutOfMemory : goal.returns-in-Err-OutOfMemory
returns-in-Err-OutOfMemory g c = record { queue = gains_none c.args.queue.now c.put_queued.new.queue c.in-Err-OutOfMemory.ensures.same }

pub returns : goal.returns
returns g c = record { queue = gains_none c.args.queue.now c.put_queued.new.queue c.in-Err.ensures.same }
