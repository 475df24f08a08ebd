use Rattle.std.proofs.Common.{◌≡◌, ◌+◌, [], All, length}
use Rattle.point_put.specs.Admissions.{admission}
use Rattle.conn_workers.specs.ServedLinks.{AllTell, WorkerServed}
use Rattle.conn_workers.proofs.worker_seats.make_workers.Given as goal

abbrev pub invariant-loop-number : goal.invariant-loop-number
invariant-loop-number g l = record {
  len : length l.workers.items ≡ l.number;
  idle : All (λ worker. worker.ends.items ≡ []) l.workers.items;
  begun : All
      (λ worker.
      WorkerServed (record { admission = g.J.ConnTerms.admission; moments = g.J.ConnTerms.moments; inlets_tell = AllTell g.D.Inlet.Source.taken; outlets_tell = AllTell g.D.Outlet.Sink.held }) (admission worker.work.config worker.work.rule.now.patterns) worker.work.names.rows
      (record { moments = g.C.Clock.moments worker.work.clock; faults = g.C.Clock.faults worker.work.clock }) [])
      l.workers.items;
  opened : length l.openings ≡ length l.fn.openings + l.number;
}
