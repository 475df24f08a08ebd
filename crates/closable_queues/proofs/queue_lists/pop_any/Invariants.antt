use Rattle.std.specs.Prelude.{◌≡◌, vec_len}
use Rattle.std.specs.List.{sum_by}
use Rattle.std.specs.VecDeque.{deque_len}
use Rattle.closable_queues.proofs.queue_lists.pop_any.Given as goal

abbrev pub invariant-loop-list : goal.invariant-loop-list
invariant-loop-list g l = sum_by deque_len l.lists.items ≡ sum_by deque_len l.fn.lists.items

abbrev pub decreases-loop-list : goal.decreases-loop-list
decreases-loop-list g l = vec_len l.lists
