use Rattle.std.proofs.Common.{◌≡◌, length, []}
use Rattle.std.specs.Prelude.{None}
use Rattle.point_put.specs.Admissions.{admission}
use Rattle.telnet_put.specs.Sessions.{to_come}
use Rattle.tsd_daemon.specs.Talks.{Causes, Moves, telnet_to_come}
use Rattle.tsd_daemon.proofs.telnet_session.answer_all.Given as goal

-- the connection goes on, and no cause of an end came
abbrev pub invariant-loop-end : goal.invariant-loop-end
invariant-loop-end g l =
    let seen = g.R.Rows.seen in
    let held = g.K.Sink.held in
    record {
      moves : Moves (admission l.config l.rule.patterns) (record { seen = seen l.fn.names.rows; held = held l.fn.sink; queue = l.fn.queue; waiting = l.fn.session.replies; counts = l.fn.session.counts }) (telnet_to_come l.fn.lines)
          (record { seen = seen l.names.rows; held = held l.sink; queue = l.queue; waiting = l.session.replies; counts = l.session.counts }) (telnet_to_come l.lines) None;
      causes : Causes (g.K.Sink.faults l.fn.sink) (g.K.Sink.faults l.sink) (g.R.Rows.stops l.fn.names.rows) (g.R.Rows.stops l.names.rows) None;
      number : g.K.Sink.number l.sink ≡ g.K.Sink.number l.fn.sink;
    }

abbrev pub decreases-loop-end : goal.decreases-loop-end
decreases-loop-end g l = length (to_come l.lines [])
