use Rattle.std.specs.Prelude.{◌≡◌}
use Rattle.std.specs.List.{sum_by}
use Rattle.std.specs.VecDeque.{deque_len}
use Rattle.closable_queues.proofs.queue_lists.empty_lists.Given as goal

abbrev pub invariant-loop : goal.invariant-loop
invariant-loop g l = sum_by deque_len l.lists.items ≡ 0
