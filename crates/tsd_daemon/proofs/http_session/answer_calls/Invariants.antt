use Rattle.std.proofs.Common.{◌≡◌, length, []}
use Rattle.std.specs.Prelude.{None}
use Rattle.point_put.specs.Admissions.{admission}
use Rattle.http_requests.specs.HttpSessions.{to_come}
use Rattle.tsd_daemon.specs.Talks.{ClockCauses, ClockMoves, http_to_come}
use Rattle.tsd_daemon.proofs.http_session.answer_calls.Given as goal

-- the connection goes on, and no cause of an end came
abbrev pub invariant-loop-sink : goal.invariant-loop-sink
invariant-loop-sink g l =
    let seen = g.R.Rows.seen in
    let held = g.K.Sink.held in
    record {
      moves : ClockMoves (admission l.config l.rule.patterns) (record { moments = g.C.Clock.moments l.fn.clock; calls = g.C.Clock.calls l.fn.clock }) (record { seen = seen l.fn.names.rows; held = held l.fn.sink; queue = l.fn.queue; waiting = l.fn.session.replies; counts = l.fn.session.counts }) (http_to_come l.fn.calls)
          (record { moments = g.C.Clock.moments l.clock; calls = g.C.Clock.calls l.clock }) (record { seen = seen l.names.rows; held = held l.sink; queue = l.queue; waiting = l.session.replies; counts = l.session.counts }) (http_to_come l.calls) None;
      causes : ClockCauses (g.K.Sink.faults l.fn.sink) (g.K.Sink.faults l.sink) (g.R.Rows.stops l.fn.names.rows) (g.R.Rows.stops l.names.rows) (g.C.Clock.faults l.fn.clock) (g.C.Clock.faults l.clock) None;
      number : g.K.Sink.number l.sink ≡ g.K.Sink.number l.fn.sink;
    }

abbrev pub decreases-loop-sink : goal.decreases-loop-sink
decreases-loop-sink g l = length (to_come l.calls [])
