use Rattle.point_put.specs.Admissions.{admission}
use Rattle.tsd_daemon.specs.ConnClocks.{ClockTells}
use Rattle.tsd_daemon.specs.ConnRequests.ConnRequest.{Http}
use Rattle.tsd_daemon.proofs.Moving.{clock_failed}
use Rattle.tsd_daemon.proofs.Pieces.{clock_causes, clock_fails}
use Rattle.tsd_daemon.proofs.call_exchange.call_in_turn.Goals as goal

pub returns-in-Ok-clause-moves : goal.returns-in-Ok-clause-moves
returns-in-Ok-clause-moves g c = λ come come' next.
    let told : ClockTells = record { moments = g.C.Clock.moments c.args.clock.now; calls = g.C.Clock.calls c.args.clock.now } in
    let told' : ClockTells = record { moments = g.C.Clock.moments c.moment_of.new.clock; calls = g.C.Clock.calls c.moment_of.new.clock } in
    c.call_at.ensures.moves come come' next told told' c.in-Ok.ensures.ok

pub returns-in-Ok-clause-causes : goal.returns-in-Ok-clause-causes
returns-in-Ok-clause-causes g c = clock_causes _ _ _ _ _ _ c.call_at.result c.in-Ok.ensures.cause.later c.call_at.ensures.causes

pub returns-in-Err-clause-moves : goal.returns-in-Err-clause-moves
returns-in-Err-clause-moves g c = λ come come' next.
    clock_failed (admission c.args.config.now c.args.rule.now.patterns) (record { seen = g.R.Rows.seen c.args.names.now.rows; held = g.K.Sink.held c.args.sink.now; queue = c.args.queue.now; waiting = c.args.session.now.replies; counts = c.args.session.now.counts }) (g.C.Clock.moments c.args.clock.now) (g.C.Clock.moments c.moment_of.new.clock) (g.C.Clock.calls c.args.clock.now) (g.C.Clock.calls c.moment_of.new.clock)
    (Http c.args.call.now) come come' c.requires c.in-Err.ensures.err c.in-Err.ensures.called next

pub returns-in-Err-clause-causes : goal.returns-in-Err-clause-causes
returns-in-Err-clause-causes g c = clock_fails _ _ _ _ c.in-Err.ensures.cause.later c.in-Err.ensures.cause.failed
