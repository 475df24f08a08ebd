use Rattle.std.proofs.Common.{◌≡◌, ◌-◌, ◌^◌, ◌≤◌, ◌++◌, []}
use Rattle.point_put.specs.Admissions.{admission}
use Rattle.tsd_daemon.specs.ConnReplies.{no_counts}
use Rattle.tsd_daemon.specs.ConnRequests.{http_asks}
use Rattle.tsd_daemon.specs.Talks.{MovesOn, http_to_come}
use Rattle.tsd_daemon.proofs.http_session.serve_http.Given as goal

-- no reply waits, and the last piece isn't fed yet
abbrev pub invariant-loop-session : goal.invariant-loop-session
invariant-loop-session g l =
    let seen = g.R.Rows.seen in
    let held = g.K.Sink.held in
    let s = g.S.Source in
    record {
      talks : MovesOn (admission l.config l.rule.patterns) (record { source = record { taken = s.taken l.fn.source; left = s.left l.fn.source; last = s.last l.fn.source }; clock = record { moments = g.C.Clock.moments l.fn.clock; calls = g.C.Clock.calls l.fn.clock }; size = l.fn.input.taken })
          (record { seen = seen l.fn.names.rows; held = held l.fn.sink; queue = l.fn.queue; waiting = []; counts = no_counts }) (λ more. http_asks (l.fn.input.piece ++ more))
          (record { source = record { taken = s.taken l.source; left = s.left l.source; last = s.last l.source }; clock = record { moments = g.C.Clock.moments l.clock; calls = g.C.Clock.calls l.clock }; size = l.input.taken })
          (record { seen = seen l.names.rows; held = held l.sink; queue = l.queue; waiting = l.session.replies; counts = l.session.counts }) (λ more. http_to_come l.calls (l.input.piece ++ more));
      quiet : l.session.replies ≡ [];
      most : l.input.taken ≤ 2 ^ 40;
      reads : s.faults l.fn.source ≤ s.faults l.source;
      writes : g.K.Sink.faults l.fn.sink ≤ g.K.Sink.faults l.sink;
      stops : g.R.Rows.stops l.fn.names.rows ≤ g.R.Rows.stops l.names.rows;
      ticks : g.C.Clock.faults l.fn.clock ≤ g.C.Clock.faults l.clock;
      source : s.number l.source ≡ s.number l.fn.source;
      sink : g.K.Sink.number l.sink ≡ g.K.Sink.number l.fn.sink;
    }

abbrev pub decreases-loop-session : goal.decreases-loop-session
decreases-loop-session g l = 2 ^ 40 - l.input.taken
