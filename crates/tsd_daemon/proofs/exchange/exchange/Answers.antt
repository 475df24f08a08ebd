use Rattle.std.proofs.Common.{sym, subst}
use Rattle.point_put.specs.Admissions.{admission}
use Rattle.tsd_daemon.specs.ConnRequests.ConnRequest.{Telnet}
use Rattle.tsd_daemon.specs.Talks.{Causes, IsNext, Moves}
use Rattle.tsd_daemon.proofs.exchange.exchange.Goals as goal

pub returns-in-Some-clause-moves : goal.returns-in-Some-clause-moves
returns-in-Some-clause-moves g c = λ come come' next. c.work_put.ensures.moves come come' (subst (λ r. IsNext (Telnet r) come come') c.in-Some.ensures next)

pub returns-clause-moves : goal.returns-clause-moves
returns-clause-moves g c = λ come come' next.
    let seen = g.R.Rows.seen in
    let held = g.K.Sink.held in
    subst (λ n. Moves (admission c.args.config.now c.args.rule.now.patterns) (record { seen = seen c.args.names.now.rows; held = held c.args.sink.now; queue = c.args.queue.now; waiting = c.args.session.now.replies; counts = c.args.session.now.counts }) come
    (record { seen = seen n; held = held c.work_fixed.new.sink; queue = c.args.queue.now; waiting = c.work_fixed.new.session.replies; counts = c.work_fixed.new.session.counts }) come' c.work_fixed.result)
    (sym c.forget.ensures) (c.work_fixed.ensures.moves (admission c.args.config.now c.args.rule.now.patterns) (seen c.args.names.now.rows) c.args.queue.now come come' next)

pub returns-clause-causes : goal.returns-clause-causes
returns-clause-causes g c =
    let faults = g.K.Sink.faults in
    let stops = g.R.Rows.stops in
    subst (λ n. Causes (faults c.args.sink.now) (faults c.work_fixed.new.sink) (stops c.args.names.now.rows) (stops n) c.work_fixed.result) (sym c.forget.ensures) (c.work_fixed.ensures.causes (stops c.args.names.now.rows))
