use Rattle.std.proofs.Common.{refl}
use Rattle.tsd_fleet.proofs.FleetLines.{serves_kept}
use Rattle.tsd_fleet.proofs.fleet.serve_parts.Goals as goal

pub returns-clause-served : goal.returns-clause-served
returns-clause-served g c = λ told told'.
    let e = c.fleet_end-end.ensures in let t = c.tally-tally.ensures in let left = c.in_ok-served.ensures.left in
    serves_kept g.H.Halt.answers _ _ _ _ _ _ _ _ _ _ _ _ _ c.in_ok-served.served.end c.deref.result.now _ c.requires.name refl c.requires.admission c.requires.moments c.end-regions.ensures c.in_ok-served.ensures.worked
    (record { ids = t.ids; rows = t.rows; cells = t.cells }) c.deref.ensures.value e.closed e.died e.stopped e.stops e.memory e.door_fault e.no_write left.counted left.reason left.asked c.unless_memory.ensures

pub returns-clause-port : goal.returns-clause-port
returns-clause-port g c = c.in_ok-served.ensures.left.counted.port
