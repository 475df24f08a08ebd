use Rattle.listing_print.proofs.RangeSteps.{counters_front, counters_taken, err_map, ok_map}
use Rattle.listing_print.proofs.store_walk.walk_counters.Goals as goal

pub returns-clause-ok : goal.returns-clause-ok
returns-clause-ok g c =
    ok_map c.walk_row.result _ _
    (counters_taken g.met.T.LineTaker.joins (g.B.Body.content c.args.body.now) c.requires.sound c.counters-row.result c.in_ok-cells.cells _ _ c.counters-row.ensures c.in_ok-cells.ensures) c.walk_row.ensures.ok

pub returns-clause-err : goal.returns-clause-err
returns-clause-err g c =
    err_map c.walk_row.result _ _
    (counters_front g.met.T.LineTaker.joins (g.B.Body.content c.args.body.now) c.requires.sound c.counters-row.result c.in_ok-cells.cells _ _ c.counters-row.ensures c.in_ok-cells.ensures) c.walk_row.ensures.err
