use Rattle.std.proofs.Common.{rules, ◌≡◌, ap}
use Rattle.tsd_fleet.specs.FleetServes.{listening_line}
use Rattle.tsd_fleet.proofs.FleetLines.{begins_front}
use Rattle.tsd_fleet.proofs.listening.listen.Goals as goal

pub returns-clause-begins : goal.returns-clause-begins
returns-clause-begins g c =
    let is : c.deref.result.now ≡ listening_line c.in-Ok.bound = search rules in
    let e = c.in-Err.ensures.err in
    begins_front c.args.port _ _ (g.D.Doors.counts c.bind.new.self) c.in-Ok.bound e.0 c.deref.result.now (record { bound_is = ap (λ k. k.port) c.in-Ok.ensures.ok; asked_is = c.in-Ok.ensures.asked }) is e.2
