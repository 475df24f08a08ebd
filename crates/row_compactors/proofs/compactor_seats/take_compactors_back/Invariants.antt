use Rattle.std.specs.Prelude.{◌≡◌, ◌≤◌, ◌++◌, length}
use Rattle.std.specs.Vec.Iter.{into_iter_items, into_iter_len}
use Rattle.row_compactors.specs.Upkeep.{TakesPlaces}
use Rattle.row_compactors.proofs.compactor_seats.take_compactors_back.Given as goal

abbrev pub invariant-loop-worker : goal.invariant-loop-worker
invariant-loop-worker g l = record {
  whole : l.fn.workers.items ≡ l.yielded ++ into_iter_items l.worker-iterator;
  len : into_iter_len l.worker-iterator ≡ length (into_iter_items l.worker-iterator);
  places : TakesPlaces l.fn.own (length l.yielded) l.own;
  clock_later : g.C.Clock.faults l.fn.clock ≤ g.C.Clock.faults l.clock;
}
