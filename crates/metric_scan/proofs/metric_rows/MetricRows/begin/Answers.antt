use Rattle.std.proofs.Common.{ℕ, subst}
use Rattle.tsd_base.specs.declared.kinds.Kind.TheVariants.{Metric}
use Rattle.row_scan.specs.Scans.{IsStart}
use Rattle.metric_scan.specs.declared.metric_rows.MetricRows.{MetricRows}
use Rattle.metric_scan.specs.SubNames.{names_in}
use Rattle.metric_scan.specs.ResolvedIds.{Resolves}
use Rattle.metric_scan.specs.Walks.{AreRowsOf}
use Rattle.metric_scan.proofs.NameIds.{id_later}
use Rattle.metric_scan.proofs.NameReads.{passed_on}
use Rattle.metric_scan.proofs.RowsBegun.{metric_unresolved, filters_unresolved, rows_begun}
use Rattle.metric_scan.proofs.WalkSteps.{starts_there}
use Rattle.metric_scan.proofs.metric_rows.MetricRows.begin.Goals as goal

pub returns-in_err-metric-clause-says : goal.returns-in_err-metric-clause-says
returns-in_err-metric-clause-says g c =
    passed_on (λ r. Resolves {X = MetricRows} (g.R.Rows.seen c.args.names.now.rows) (names_in c.args.sub.now) (λ s rows. AreRowsOf c.args.sub.now c.args.start c.args.end s rows) r (g.R.Rows.seen c.resolve_name.new.names.rows)) c.in_err-metric.field-0.0 c.from_residual.result c.from_residual.ensures.1
    (metric_unresolved c.args.sub.now _ _ c.in_err-metric.field-0.0 c.in_err-metric.ensures.says)

pub returns-in_err-filters-clause-says : goal.returns-in_err-filters-clause-says
returns-in_err-filters-clause-says g c =
    passed_on (λ r. Resolves {X = MetricRows} (g.R.Rows.seen c.args.names.now.rows) (names_in c.args.sub.now) (λ s rows. AreRowsOf c.args.sub.now c.args.start c.args.end s rows) r (g.R.Rows.seen c.resolve_filters.new.names.rows)) c.in_err-filters.field-0.0 c.from_residual-in_err-filters.result c.from_residual-in_err-filters.ensures.1
    (filters_unresolved c.args.sub.now c.list.result.now _ _ _ c.in_err-filters.field-0.0 c.list.ensures c.in_ok-metric.ensures.says.0 c.in_err-filters.ensures.says)

pub returns-clause-says : goal.returns-clause-says
returns-clause-says g c =
    let small = (id_later _ _ Metric c.args.sub.now.metric c.in_ok-metric.metric c.in_ok-filters.ensures.says.0.made.since.extends c.in_ok-metric.ensures.says.1).is_id.1 in
    rows_begun c.args.sub.now c.args.start c.args.end c.list.result.now _ c.in_ok-metric.metric _ _ _ c.list.ensures c.in_ok-metric.ensures.says c.in_ok-filters.ensures.says
    (subst (λ (x : ℕ × ℕ). IsStart (g.R.Rows.seen c.resolve_filters.new.names.rows).base.widths c.in_ok-metric.metric x.0 x.1 c.start.result) (λ i. (c.base_of.ensures i, c.base_of-2.ensures i))
    (starts_there c.widths.result _ c.in_ok-metric.metric c.base_of.result c.base_of-2.result c.start.result c.widths.ensures small c.start.ensures.starts)) c.none.ensures
