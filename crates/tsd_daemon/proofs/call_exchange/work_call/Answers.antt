use Rattle.point_put.specs.Admissions.{admission}
use Rattle.tsd_daemon.proofs.Moving.{clock_first_failed, clock_gave_first}
use Rattle.tsd_daemon.proofs.call_exchange.work_call.Goals as goal

pub returns-in-Ok-clause-moves : goal.returns-in-Ok-clause-moves
returns-in-Ok-clause-moves g c = λ come come' next.
    let seen = g.R.Rows.seen in
    let held = g.K.Sink.held in
    clock_gave_first (admission c.args.config.now c.args.rule.now.patterns) (record { seen = seen c.args.names.now.rows; held = held c.args.sink.now; queue = c.args.queue.now; waiting = c.args.session.now.replies; counts = c.args.session.now.counts }) (record { moments = g.C.Clock.moments c.args.clock.now; calls = g.C.Clock.calls c.args.clock.now }) (record { moments = g.C.Clock.moments c.call_in_turn.new.clock; calls = g.C.Clock.calls c.call_in_turn.new.clock }) (held c.give.new.sink) c.give.new.self
    (record { seen = seen c.call_in_turn.new.names.rows; held = held c.call_in_turn.new.sink; queue = c.call_in_turn.new.queue; waiting = c.call_in_turn.new.session.replies; counts = c.call_in_turn.new.session.counts })
    come come' c.call_in_turn.result c.in-Ok.ensures.ok c.in-Ok.ensures.none (c.call_in_turn.ensures.moves come come' next)

pub returns-in-Err-clause-moves : goal.returns-in-Err-clause-moves
returns-in-Err-clause-moves g c = λ come come' next.
    let held = g.K.Sink.held in
    clock_first_failed (admission c.args.config.now c.args.rule.now.patterns) (record { seen = g.R.Rows.seen c.args.names.now.rows; held = held c.args.sink.now; queue = c.args.queue.now; waiting = c.args.session.now.replies; counts = c.args.session.now.counts }) (record { moments = g.C.Clock.moments c.args.clock.now; calls = g.C.Clock.calls c.args.clock.now }) (held c.give.new.sink) c.give.new.self come come' c.in-Err.ensures.err
