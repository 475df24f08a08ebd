use Rattle.std.proofs.Common.{rules, ◌≡◌, ◌∙◌, sym}
use Rattle.http_api.specs.CallWork.{asks_clock}
use Rattle.http_api.proofs.CallMoments.{work_alike}
use Rattle.http_api.proofs.routed_call.RoutedCall.asks_clock.Goals as goal

pub returns-clause-alike : goal.returns-clause-alike
returns-clause-alike c other a b =
    let asks : c.asks_moment.result ≡ asks_clock c.args.self.now = search rules in
    work_alike c.args.self.now (sym asks ∙ other) a b
