use Rattle.std.specs.Prelude.{◌≡◌, ◌≤◌, length}
use Rattle.std.specs.List.{sum_by}
use Rattle.std.specs.Vec.Iter.{into_iter_items, into_iter_len}
use Rattle.test_calls.proofs.link_tests.give_all_back.Given as goal

abbrev pub invariant-loop-worker : goal.invariant-loop-worker
invariant-loop-worker l = record {
  len : into_iter_len l.worker-iterator ≡ length (into_iter_items l.worker-iterator);
  few : sum_by (λ worker. length worker.ends.items) (into_iter_items l.worker-iterator) ≤ l.doors.out;
}
