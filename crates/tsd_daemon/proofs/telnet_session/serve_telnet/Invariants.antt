use Rattle.std.proofs.Common.{◌≡◌, ◌-◌, ◌^◌, ◌≤◌, ◌++◌, []}
use Rattle.point_put.specs.Admissions.{admission}
use Rattle.tsd_daemon.specs.ConnClocks.{ClockTells}
use Rattle.tsd_daemon.specs.ConnReplies.{no_counts}
use Rattle.tsd_daemon.specs.ConnRequests.{telnet_asks}
use Rattle.tsd_daemon.specs.Talks.{MovesOn, telnet_to_come}
use Rattle.tsd_daemon.proofs.telnet_session.serve_telnet.Given as goal

-- no reply waits, and the last piece isn't fed yet
abbrev pub invariant-loop-session : goal.invariant-loop-session
invariant-loop-session g l =
    let seen = g.R.Rows.seen in
    let held = g.K.Sink.held in
    let s = g.S.Source in
    record {
      talks : (clock : ClockTells) → MovesOn (admission l.config l.rule.patterns) (record { source = record { taken = s.taken l.fn.source; left = s.left l.fn.source; last = s.last l.fn.source }; clock = clock; size = l.fn.input.taken })
          (record { seen = seen l.fn.names.rows; held = held l.fn.sink; queue = l.fn.queue; waiting = []; counts = no_counts }) (λ more. telnet_asks (l.fn.input.piece ++ more))
          (record { source = record { taken = s.taken l.source; left = s.left l.source; last = s.last l.source }; clock = clock; size = l.input.taken })
          (record { seen = seen l.names.rows; held = held l.sink; queue = l.queue; waiting = l.session.replies; counts = l.session.counts }) (λ more. telnet_to_come l.lines (l.input.piece ++ more));
      quiet : l.session.replies ≡ [];
      most : l.input.taken ≤ 2 ^ 40;
      reads : s.faults l.fn.source ≤ s.faults l.source;
      writes : g.K.Sink.faults l.fn.sink ≤ g.K.Sink.faults l.sink;
      stops : g.R.Rows.stops l.fn.names.rows ≤ g.R.Rows.stops l.names.rows;
      source : s.number l.source ≡ s.number l.fn.source;
      sink : g.K.Sink.number l.sink ≡ g.K.Sink.number l.fn.sink;
    }

abbrev pub decreases-loop-session : goal.decreases-loop-session
decreases-loop-session g l = 2 ^ 40 - l.input.taken
