use Rattle.std.proofs.Common.{◌+◌, arith}
use Rattle.row_key.specs.declared.tables.Table.TheVariants.{Points}
use Rattle.listing_print.specs.MetricRows.{metric_end}
use Rattle.listing_print.specs.StoreRows.{row_at}
use Rattle.listing_print.proofs.GivenCells.{on_err}
use Rattle.listing_print.proofs.RangeSteps.{metrics_end, metrics_fit}
use Rattle.listing_print.proofs.Steps.{rows_begin, rows_then, some_then}
use Rattle.listing_print.proofs.store_walk.walk_points.Goals as goal

pub loop-before-init : goal.loop-before-init
loop-before-init g c = record { taken = rows_begin g.met.T.LineTaker.joins (g.B.Body.content c.args.body.now) (row_at Points (metric_end (g.B.Body.content c.args.body.now).widths 0)) _; later = omega arith }

pub walk_metric-requires-clause-fits : goal.walk_metric-requires-clause-fits
walk_metric-requires-clause-fits g c = metrics_fit (g.B.Body.content c.args.body.now) c.requires.sound c.args.metrics c.loop-before.before c.requires.all c.loop-before-test.true

pub returns-in_err-walk_metric-clause-err : goal.returns-in_err-walk_metric-clause-err
returns-in_err-walk_metric-clause-err g c =
    let s = g.B.Body.content c.args.body.now in
    on_err c.from_residual.result _
    (some_then g.met.T.LineTaker.joins s (row_at Points (metric_end s.widths 0)) (row_at Points (metric_end s.widths c.loop-before.before)) _ _ _ c.loop-before.invariant.taken c.in_err-walk_metric.ensures.err)

pub loop-before-preserved : goal.loop-before-preserved
loop-before-preserved g c =
    let s = g.B.Body.content c.args.body.now in
    record {
      taken = rows_then g.met.T.LineTaker.joins s (row_at Points (metric_end s.widths 0)) (row_at Points (metric_end s.widths c.loop-before.before)) (row_at Points (metric_end s.widths (c.loop-before.before + 1))) _ _ _ c.loop-before.invariant.taken c.in_ok-walk_metric.ensures.ok;
      later = let a = c.loop-before.invariant.later in let b = c.in_ok-walk_metric.ensures.later in omega (arith, a, b);
    }

pub returns-clause-ok : goal.returns-clause-ok
returns-clause-ok g c =
    let over = c.loop-before-test.false in
    let within = c.loop-before.auto.before-end in
    metrics_end g.met.T.LineTaker.joins (g.B.Body.content c.args.body.now) c.requires.sound c.args.metrics c.loop-before.before _ _ c.requires.all (omega (arith, over)) (omega (arith, within)) c.loop-before.invariant.taken
