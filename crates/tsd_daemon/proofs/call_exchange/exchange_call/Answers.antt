use Rattle.std.proofs.Common.{sym, subst}
use Rattle.http_requests.specs.declared.http_call.Call.{Call}
use Rattle.tsd_daemon.specs.ConnRequests.ConnRequest.{Http}
use Rattle.tsd_daemon.specs.Talks.{IsNext}
use Rattle.tsd_daemon.proofs.call_exchange.exchange_call.Goals as goal

pub returns-clause-moves : goal.returns-clause-moves
returns-clause-moves g c = λ come come' next. c.work_call.ensures.moves come come' (subst (λ (call : Call). IsNext (Http call) come come') (sym c.of-routed.ensures) next)
