use Rattle.compactor.proofs.QueueRows.{are_queued, none_known, still_known}
use Rattle.compactor.proofs.queue.Queue.pop.Goals as goal

pub invariant_of-self : goal.invariant_of-self
invariant_of-self c = (are_queued c.pop_first.new.self c.in_err-key.ensures.ordered, still_known c.self.inside.rows c.pop_first.new.self c.self.inside.known c.in_err-key.ensures.unchanged c.self.invariant.1)

pub invariant_of-self-2 : goal.invariant_of-self-2
invariant_of-self-2 c = (are_queued c.pop_first.new.self c.in_ok-key.ensures.ordered, none_known c.pop_first.new.self.keys c.clear.new.self c.clear.ensures)
