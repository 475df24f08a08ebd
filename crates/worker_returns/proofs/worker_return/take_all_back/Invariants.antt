use Rattle.std.proofs.Common.{◌≡◌, ◌≤◌, ◌+◌, ℕ, All, ◌++◌, length, map}
use Rattle.std.specs.List.{sum_by}
use Rattle.std.specs.Vec.Iter.{into_iter_items, into_iter_len}
use Rattle.cell_model.specs.Seen.{IsOwn}
use Rattle.cell_model.specs.Deeds.{Extends}
use Rattle.region_locks.specs.CallerViews.{MadeNoMore}
use Rattle.point_put.specs.Admissions.{admission}
use Rattle.conn_workers.specs.ServedLinks.{AllTell, WorkerServed}
use Rattle.worker_returns.specs.GatheredLinks.{Gathered, ReturnsTold, TakenBack}
use Rattle.worker_returns.proofs.worker_return.take_all_back.Given as goal

abbrev pub invariant-loop-worker : goal.invariant-loop-worker
invariant-loop-worker g l = record {
  whole : l.fn.workers.items ≡ l.yielded ++ into_iter_items l.worker-iterator;
  len : into_iter_len l.worker-iterator ≡ length (into_iter_items l.worker-iterator);
  served : All
      (λ worker.
      WorkerServed (record { admission = g.J.ConnTerms.admission; moments = g.J.ConnTerms.moments; inlets_tell = AllTell g.D.Inlet.Source.taken; outlets_tell = AllTell g.D.Outlet.Sink.held }) (admission worker.work.config worker.work.rule.now.patterns) worker.work.names.rows
      (record { moments = g.C.Clock.moments worker.work.clock; faults = g.C.Clock.faults worker.work.clock }) (map (λ one. (g.D.Doors.shown one.0, one.1)) worker.ends.items))
      (into_iter_items l.worker-iterator);
  few : sum_by (λ worker. length worker.ends.items) (into_iter_items l.worker-iterator) ≤ (g.D.Doors.counts l.doors).out;
  gathered : (count : ℕ) (first : ReturnsTold)
      → Gathered (record { admission = g.J.ConnTerms.admission; moments = g.J.ConnTerms.moments; inlets_tell = AllTell g.D.Inlet.Source.taken; outlets_tell = AllTell g.D.Outlet.Sink.held }) l.fn.own l.fn.own.absorbed count first (record { back = g.D.Doors.back l.fn.doors; clock_faults = g.C.Clock.faults l.fn.clock }) l.fn.ends.items
      → Gathered (record { admission = g.J.ConnTerms.admission; moments = g.J.ConnTerms.moments; inlets_tell = AllTell g.D.Inlet.Source.taken; outlets_tell = AllTell g.D.Outlet.Sink.held }) l.own l.own.absorbed (count + length l.yielded) first (record { back = g.D.Doors.back l.doors; clock_faults = g.C.Clock.faults l.clock }) l.ends.items;
  later : Extends l.fn.own l.own;
  made : MadeNoMore l.fn.own l.own;
  stays : (number : ℕ) → IsOwn l.fn.own number → IsOwn l.own number;
  caller : l.own.caller ≡ l.fn.own.caller;
  returned : TakenBack l.all (sum_by (λ worker. length worker.ends.items) l.yielded) (length l.fn.ends.items) (length l.ends.items) (g.D.Doors.counts l.fn.doors) (g.D.Doors.counts l.doors);
  faults : g.D.Doors.faults l.doors ≡ g.D.Doors.faults l.fn.doors;
  waiting : g.D.Doors.waiting l.doors ≡ g.D.Doors.waiting l.fn.doors;
  moments : g.C.Clock.moments l.clock ≡ g.C.Clock.moments l.fn.clock;
  clock_later : g.C.Clock.faults l.fn.clock ≤ g.C.Clock.faults l.clock;
}
