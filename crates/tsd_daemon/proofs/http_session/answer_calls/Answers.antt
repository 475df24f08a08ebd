use Rattle.std.proofs.Common.{◌∙◌, refl, subst, arith}
use Rattle.std.specs.Prelude.{Option, None, Some}
use Rattle.point_put.specs.Admissions.{admission}
use Rattle.http_requests.specs.declared.http_call.Call.{Call}
use Rattle.http_requests.specs.HttpSessions.{Turns}
use Rattle.tsd_daemon.specs.Talks.{http_to_come}
use Rattle.tsd_daemon.proofs.Moving.{clock_moves_on}
use Rattle.tsd_daemon.proofs.Calls.{next_call, no_calls, same_calls}
use Rattle.tsd_daemon.proofs.Pieces.{clock_causes, clock_causes_on}
use Rattle.tsd_daemon.proofs.Talking.{talk_broken, talk_come}
use Rattle.tsd_daemon.proofs.http_session.answer_calls.Goals as goal

pub returns-in-Err-clause-moves : goal.returns-in-Err-clause-moves
returns-in-Err-clause-moves g c = λ from t le k.
    let held = g.K.Sink.held in
    talk_broken (admission c.args.config.now c.args.rule.now.patterns) from (record t { clock = record { moments = g.C.Clock.moments c.loop-sink.clock; calls = g.C.Clock.calls c.loop-sink.clock } }) (record { seen = g.R.Rows.seen c.loop-sink.names.rows; held = held c.loop-sink.sink; queue = c.loop-sink.queue; waiting = c.loop-sink.session.replies; counts = c.loop-sink.session.counts })
    (held c.break_off.new.sink) c.break_off.result (http_to_come c.loop-sink.calls) le (c.loop-sink.invariant.moves from t le k) c.break_off.ensures.gives

pub returns-in-Err-clause-causes : goal.returns-in-Err-clause-causes
returns-in-Err-clause-causes g c =
    let faults = g.K.Sink.faults in
    let stops = g.R.Rows.stops in
    let ticks = g.C.Clock.faults in
    let broke = clock_causes _ _ _ _ (ticks c.loop-sink.clock) (ticks c.loop-sink.clock) (Some c.break_off.result) (omega arith) (c.break_off.ensures.causes (stops c.loop-sink.names.rows)) in
    clock_causes_on (faults c.args.sink.now) (faults c.loop-sink.sink) (faults c.break_off.new.sink) (stops c.args.names.now.rows) (stops c.loop-sink.names.rows) (stops c.loop-sink.names.rows) (ticks c.args.clock.now) (ticks c.loop-sink.clock) (ticks c.loop-sink.clock) (Some c.break_off.result)
    c.loop-sink.invariant.causes broke

pub returns-in-Ok-None-clause-moves : goal.returns-in-Ok-None-clause-moves
returns-in-Ok-None-clause-moves g c = λ from t le k.
    let w = subst (λ (o : Option Call). Turns c.loop-sink.calls o c.turn.new.self) c.in-Ok-None.field-0-is c.in-Ok-None.ensures.ok in
    talk_come (admission c.args.config.now c.args.rule.now.patterns) from (record t { clock = record { moments = g.C.Clock.moments c.loop-sink.clock; calls = g.C.Clock.calls c.loop-sink.clock } }) _ (http_to_come c.loop-sink.calls) (http_to_come c.turn.new.self) (c.loop-sink.invariant.moves from t le k) (same_calls c.loop-sink.calls c.turn.new.self w.same)

pub returns-in-Ok-None-clause-none : goal.returns-in-Ok-None-clause-none
returns-in-Ok-None-clause-none g c = λ same.
    let w = subst (λ (o : Option Call). Turns c.loop-sink.calls o c.turn.new.self) c.in-Ok-None.field-0-is c.in-Ok-None.ensures.ok in
    no_calls c.loop-sink.calls c.turn.new.self w

pub returns-in-Some-clause-moves : goal.returns-in-Some-clause-moves
returns-in-Some-clause-moves g c =
    let t = subst (λ (o : Option Call). Turns c.loop-sink.calls o c.turn.new.self) c.in-Ok-Some.field-0-is c.in-Ok-Some.ensures.ok in
    let next = next_call c.loop-sink.calls c.turn.new.self c.in-Ok-Some.call t in
    let seen = g.R.Rows.seen in
    let held = g.K.Sink.held in
    clock_moves_on (admission c.args.config.now c.args.rule.now.patterns) (record { seen = seen c.args.names.now.rows; held = held c.args.sink.now; queue = c.args.queue.now; waiting = c.args.session.now.replies; counts = c.args.session.now.counts }) (record { seen = seen c.loop-sink.names.rows; held = held c.loop-sink.sink; queue = c.loop-sink.queue; waiting = c.loop-sink.session.replies; counts = c.loop-sink.session.counts })
    (record { seen = seen c.exchange_call.new.names.rows; held = held c.exchange_call.new.sink; queue = c.exchange_call.new.queue; waiting = c.exchange_call.new.session.replies; counts = c.exchange_call.new.session.counts })
    (record { moments = g.C.Clock.moments c.args.clock.now; calls = g.C.Clock.calls c.args.clock.now }) (record { moments = g.C.Clock.moments c.loop-sink.clock; calls = g.C.Clock.calls c.loop-sink.clock }) (record { moments = g.C.Clock.moments c.exchange_call.new.clock; calls = g.C.Clock.calls c.exchange_call.new.clock }) (http_to_come c.args.calls.now) (http_to_come c.loop-sink.calls) (http_to_come c.turn.new.self) (Some c.in-Some.end) c.loop-sink.invariant.moves (c.in-Some.ensures.moves (http_to_come c.loop-sink.calls) (http_to_come c.turn.new.self) next)

pub returns-in-Some-clause-causes : goal.returns-in-Some-clause-causes
returns-in-Some-clause-causes g c =
    let faults = g.K.Sink.faults in
    let stops = g.R.Rows.stops in
    let ticks = g.C.Clock.faults in
    clock_causes_on (faults c.args.sink.now) (faults c.loop-sink.sink) (faults c.exchange_call.new.sink) (stops c.args.names.now.rows) (stops c.loop-sink.names.rows) (stops c.exchange_call.new.names.rows) (ticks c.args.clock.now) (ticks c.loop-sink.clock) (ticks c.exchange_call.new.clock) (Some c.in-Some.end)
    c.loop-sink.invariant.causes c.in-Some.ensures.causes

pub loop-sink-init : goal.loop-sink-init
loop-sink-init g c = record { moves = λ from t le k. k; causes = record { later = omega arith; grows = omega arith; asked = omega arith; cause = tt }; number = refl }

pub loop-sink-preserved : goal.loop-sink-preserved
loop-sink-preserved g c =
    let t = subst (λ (o : Option Call). Turns c.loop-sink.calls o c.turn.new.self) c.in-Ok-Some.field-0-is c.in-Ok-Some.ensures.ok in
    let next = next_call c.loop-sink.calls c.turn.new.self c.in-Ok-Some.call t in
    let seen = g.R.Rows.seen in
    let held = g.K.Sink.held in
    let faults = g.K.Sink.faults in
    let stops = g.R.Rows.stops in
    let ticks = g.C.Clock.faults in
    record {
      moves = clock_moves_on (admission c.args.config.now c.args.rule.now.patterns) (record { seen = seen c.args.names.now.rows; held = held c.args.sink.now; queue = c.args.queue.now; waiting = c.args.session.now.replies; counts = c.args.session.now.counts })
          (record { seen = seen c.loop-sink.names.rows; held = held c.loop-sink.sink; queue = c.loop-sink.queue; waiting = c.loop-sink.session.replies; counts = c.loop-sink.session.counts })
          (record { seen = seen c.exchange_call.new.names.rows; held = held c.exchange_call.new.sink; queue = c.exchange_call.new.queue; waiting = c.exchange_call.new.session.replies; counts = c.exchange_call.new.session.counts })
          (record { moments = g.C.Clock.moments c.args.clock.now; calls = g.C.Clock.calls c.args.clock.now }) (record { moments = g.C.Clock.moments c.loop-sink.clock; calls = g.C.Clock.calls c.loop-sink.clock }) (record { moments = g.C.Clock.moments c.exchange_call.new.clock; calls = g.C.Clock.calls c.exchange_call.new.clock }) (http_to_come c.args.calls.now) (http_to_come c.loop-sink.calls) (http_to_come c.turn.new.self) None c.loop-sink.invariant.moves (c.in_default.ensures.moves (http_to_come c.loop-sink.calls) (http_to_come c.turn.new.self) next);
      causes = clock_causes_on (faults c.args.sink.now) (faults c.loop-sink.sink) (faults c.exchange_call.new.sink) (stops c.args.names.now.rows) (stops c.loop-sink.names.rows) (stops c.exchange_call.new.names.rows) (ticks c.args.clock.now) (ticks c.loop-sink.clock) (ticks c.exchange_call.new.clock) None c.loop-sink.invariant.causes c.in_default.ensures.causes;
      number = c.in_default.ensures.number ∙ c.loop-sink.invariant.number;
    }
