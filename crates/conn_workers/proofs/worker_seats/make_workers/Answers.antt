use Rattle.std.proofs.Common.{◌≡◌, [], rules}
use Rattle.point_put.specs.Admissions.{admission}
use Rattle.conn_workers.specs.ServedLinks.{AllTell, WorkerServed}
use Rattle.conn_workers.proofs.WorkerLists.{none_hold, one_more_holds, same_holds}
use Rattle.conn_workers.proofs.worker_seats.make_workers.Goals as goal

pub loop-number-init : goal.loop-number-init
loop-number-init g c = record {
  len = search rules;
  idle = none_hold c.in_ok-workers.workers.items (λ worker. worker.ends.items ≡ []) c.in_ok-workers.ensures.items;
  begun = none_hold c.in_ok-workers.workers.items
      (λ worker.
      WorkerServed (record { admission = g.J.ConnTerms.admission; moments = g.J.ConnTerms.moments; inlets_tell = AllTell g.D.Inlet.Source.taken; outlets_tell = AllTell g.D.Outlet.Sink.held }) (admission worker.work.config worker.work.rule.now.patterns) worker.work.names.rows
      (record { moments = g.C.Clock.moments worker.work.clock; faults = g.C.Clock.faults worker.work.clock }) [])
      c.in_ok-workers.ensures.items;
  opened = search rules;
}

pub loop-number-preserved : goal.loop-number-preserved
loop-number-preserved g c = record {
  len = search rules;
  idle = one_more_holds c.loop-number.workers.items c.push.new.self.items c.make.result (λ worker. worker.ends.items ≡ []) c.in_ok-push.ensures.items c.loop-number.invariant.idle c.make.ensures.none;
  begun = one_more_holds c.loop-number.workers.items c.push.new.self.items c.make.result
      (λ worker.
      WorkerServed (record { admission = g.J.ConnTerms.admission; moments = g.J.ConnTerms.moments; inlets_tell = AllTell g.D.Inlet.Source.taken; outlets_tell = AllTell g.D.Outlet.Sink.held }) (admission worker.work.config worker.work.rule.now.patterns) worker.work.names.rows
      (record { moments = g.C.Clock.moments worker.work.clock; faults = g.C.Clock.faults worker.work.clock }) [])
      c.in_ok-push.ensures.items c.loop-number.invariant.begun
      (same_holds c.in_ok-work.work c.make.result.work
      (λ work.
      WorkerServed (record { admission = g.J.ConnTerms.admission; moments = g.J.ConnTerms.moments; inlets_tell = AllTell g.D.Inlet.Source.taken; outlets_tell = AllTell g.D.Outlet.Sink.held }) (admission work.config work.rule.now.patterns) work.names.rows
      (record { moments = g.C.Clock.moments work.clock; faults = g.C.Clock.faults work.clock }) [])
      c.make.ensures.work c.in_ok-work.ensures.begun);
  opened = search rules;
}
