use Rattle.std.proofs.Common.{◌+◌, arith}
use Rattle.listing_print.proofs.LeastIds.{most_fits}
use Rattle.listing_print.proofs.RangeSteps.{err_map, forward_here, metric_some, metric_taken, ok_map, range_here}
use Rattle.listing_print.proofs.store_walk.walk_metric.Goals as goal

pub overflow_add-metric : goal.overflow_add-metric
overflow_add-metric g c =
    let w = (g.B.Body.content c.args.body.now).widths in
    let most = most_fits w.metric w.metric_fits in
    let fits = c.requires.fits in
    omega (arith, most, fits)

pub overflow_cast-metric : goal.overflow_cast-metric
overflow_cast-metric g c =
    let w = (g.B.Body.content c.args.body.now).widths in
    let most = most_fits w.metric w.metric_fits in
    let fits = c.requires.fits in
    omega (arith, most, fits)

pub walk_until-requires-clause-range : goal.walk_until-requires-clause-range
walk_until-requires-clause-range g c = range_here c.widths-widths.result (g.B.Body.content c.args.body.now).widths (c.args.before + 1) c.hour_row-from.result c.hour_row-to.result c.widths-widths.ensures c.hour_row-from.ensures c.hour_row-to.ensures

pub walk_until-requires-clause-forward : goal.walk_until-requires-clause-forward
walk_until-requires-clause-forward g c = forward_here c.widths-widths.result (c.args.before + 1) c.hour_row-from.result c.hour_row-to.result c.hour_row-from.ensures c.hour_row-to.ensures

pub returns-clause-ok : goal.returns-clause-ok
returns-clause-ok g c =
    ok_map c.walk_until.result _ _
    (metric_taken g.met.T.LineTaker.joins (g.B.Body.content c.args.body.now) c.requires.sound c.args.before c.widths-widths.result c.hour_row-from.result c.hour_row-to.result _ _ c.requires.fits c.widths-widths.ensures c.hour_row-from.ensures c.hour_row-to.ensures)
    c.walk_until.ensures.ok

pub returns-clause-err : goal.returns-clause-err
returns-clause-err g c =
    err_map c.walk_until.result _ _
    (metric_some g.met.T.LineTaker.joins (g.B.Body.content c.args.body.now) c.requires.sound c.args.before c.widths-widths.result c.hour_row-from.result _ _ c.requires.fits c.widths-widths.ensures c.hour_row-from.ensures)
    c.walk_until.ensures.err
