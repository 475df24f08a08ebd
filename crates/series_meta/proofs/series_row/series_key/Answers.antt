use Rattle.row_key.specs.declared.keys.RowKey.{RowKey}
use Rattle.metric_scan.specs.ResolvedIds.{Resolves}
use Rattle.series_meta.specs.SeriesRows.{IsShownKey, series_names}
use Rattle.series_meta.proofs.NameLooks.{passed_on, metric_unresolved, tags_unresolved, series_resolved}
use Rattle.series_meta.proofs.series_row.series_key.Goals as goal

pub returns-in_err-id-clause-says : goal.returns-in_err-id-clause-says
returns-in_err-id-clause-says g c =
    passed_on (λ r. Resolves {X = RowKey} (g.R.Rows.seen c.args.names.now.rows) (series_names c.args.metric.now c.args.tags.now) (λ s key. IsShownKey s c.args.metric.now c.args.tags.now c.args.now key) r (g.R.Rows.seen c.resolve_name.new.names.rows)) c.in_err-id.field-0.0 c.from_residual.result c.from_residual.ensures.1
    (metric_unresolved c.args.metric.now c.args.tags.now _ _ (g.R.Rows.seen c.resolve_name.new.names.rows) c.in_err-id.field-0.0 c.in_err-id.ensures.says)

pub returns-in_err-pairs-clause-says : goal.returns-in_err-pairs-clause-says
returns-in_err-pairs-clause-says g c =
    passed_on (λ r. Resolves {X = RowKey} (g.R.Rows.seen c.args.names.now.rows) (series_names c.args.metric.now c.args.tags.now) (λ s key. IsShownKey s c.args.metric.now c.args.tags.now c.args.now key) r (g.R.Rows.seen c.pairs_of.new.names.rows)) c.in_err-pairs.field-0.0 c.from_residual-in_err-pairs.result c.from_residual-in_err-pairs.ensures.1
    (tags_unresolved c.args.metric.now c.args.tags.now _ _ _ c.in_err-pairs.field-0.0 c.pairs.result.now c.pairs.ensures.pairs c.in_ok-id.ensures.says.0 c.in_err-pairs.ensures.says)

pub returns-clause-says : goal.returns-clause-says
returns-clause-says g c =
    series_resolved c.args.metric.now c.args.tags.now _ _ _ c.args.now c.pairs.result.now (record { metric = c.in_ok-id.id; base = c.base_of.result; pairs = c.in_ok-pairs.pairs }) c.requires c.pairs.ensures.pairs c.pairs.ensures.are_tags c.base_of.ensures c.in_ok-id.ensures.says.0 c.in_ok-id.ensures.says.1
    c.in_ok-pairs.ensures.says.0 c.in_ok-pairs.ensures.says.1
