use Rattle.std.proofs.Common.{◌∙◌, sym}
use Rattle.http_api.specs.CallWork.{asks_clock}
use Rattle.tsd_daemon.proofs.Giving.{at_err, on_err}
use Rattle.tsd_daemon.proofs.GivenMoments.{moment_asked, moment_unasked}
use Rattle.tsd_daemon.proofs.call_exchange.moment_of.Goals as goal

pub returns-then-asks_clock-clause-ok : goal.returns-then-asks_clock-clause-ok
returns-then-asks_clock-clause-ok g c = moment_asked (asks_clock c.args.call.now) (g.C.Clock.moments c.args.clock.now) (g.C.Clock.moments c.now.new.self) (g.C.Clock.calls c.args.clock.now) (g.C.Clock.calls c.now.new.self) c.now.result (sym c.asks_clock.ensures.asks ∙ c.if-asks_clock.true) c.now.ensures.ok c.now.ensures.calls

pub returns-then-asks_clock-clause-err : goal.returns-then-asks_clock-clause-err
returns-then-asks_clock-clause-err g c = on_err c.now.result (λ same. (sym c.asks_clock.ensures.asks ∙ c.if-asks_clock.true, same)) c.now.ensures.err

pub returns-then-asks_clock-clause-called : goal.returns-then-asks_clock-clause-called
returns-then-asks_clock-clause-called g c = at_err c.now.result c.now.ensures.calls

pub returns-clause-ok : goal.returns-clause-ok
returns-clause-ok g c = moment_unasked (asks_clock c.args.call.now) (record { moments = g.C.Clock.moments c.args.clock.now; calls = g.C.Clock.calls c.args.clock.now }) 0 (sym c.asks_clock.ensures.asks ∙ c.if-asks_clock.false)
