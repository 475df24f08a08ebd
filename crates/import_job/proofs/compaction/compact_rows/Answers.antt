use Rattle.std.proofs.Common.{◌∙◌, arith}
use Rattle.import_job.proofs.Loops.{metric_fits, metrics_begin, metrics_end, metrics_on}
use Rattle.import_job.proofs.compaction.compact_rows.Goals as goal

pub loop-before-init : goal.loop-before-init
loop-before-init g c = record {
  far = metrics_begin c.in_ok-count.count (g.R.Rows.seen c.args.rows.now) (g.R.Rows.seen c.metric_count.new.rows) c.in_ok-count.ensures.counts c.in_ok-count.ensures.leaves.possible;
  grows = c.in_ok-count.ensures.leaves.grows;
}

pub compact_metric-requires-clause-fits : goal.compact_metric-requires-clause-fits
compact_metric-requires-clause-fits g c =
    metric_fits c.in_ok-count.count c.loop-before.before (g.R.Rows.seen c.args.rows.now) (g.R.Rows.seen c.loop-before.rows) c.loop-before-test.true c.loop-before.invariant.far

pub compact_metric-requires-clause-alone : goal.compact_metric-requires-clause-alone
compact_metric-requires-clause-alone g c = c.loop-before.invariant.far.since.alone ∙ c.requires.alone

pub loop-before-preserved : goal.loop-before-preserved
loop-before-preserved g c = record {
  far = metrics_on c.in_ok-count.count c.loop-before.before (g.R.Rows.seen c.args.rows.now) (g.R.Rows.seen c.loop-before.rows) (g.R.Rows.seen c.compact_metric.new.rows) c.loop-before.invariant.far c.in_ok-compact_metric.ensures.compacts c.in_ok-compact_metric.ensures.leaves.possible;
  grows = let a = c.loop-before.invariant.grows in let b = c.in_ok-compact_metric.ensures.leaves.grows in omega (arith, a, b);
}

pub returns-clause-compacts : goal.returns-clause-compacts
returns-clause-compacts g c =
    let over = c.loop-before-test.false in
    metrics_end c.in_ok-count.count c.loop-before.before (g.R.Rows.seen c.args.rows.now) (g.R.Rows.seen c.loop-before.rows) (omega (arith, over)) c.loop-before.invariant.far
