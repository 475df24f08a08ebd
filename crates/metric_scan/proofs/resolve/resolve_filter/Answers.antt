use Rattle.metric_scan.specs.declared.id_filter.IdFilter.{IdFilter}
use Rattle.metric_scan.specs.IdFilters.{IsIdFilter}
use Rattle.metric_scan.specs.SubNames.{filter_names}
use Rattle.metric_scan.specs.ResolvedIds.{Resolves}
use Rattle.metric_scan.proofs.NameReads.{passed_on}
use Rattle.metric_scan.proofs.NameIds.{key_unresolved, test_unresolved, filter_resolved}
use Rattle.metric_scan.proofs.resolve.resolve_filter.Goals as goal

pub returns-in_err-key-clause-says : goal.returns-in_err-key-clause-says
returns-in_err-key-clause-says g c =
    passed_on (λ r. Resolves {X = IdFilter} (g.R.Rows.seen c.args.names.now.rows) (filter_names c.args.filter.now) (λ s by. IsIdFilter s c.args.filter.now by) r (g.R.Rows.seen c.resolve_name.new.names.rows)) c.in_err-key.field-0.0 c.from_residual.result c.from_residual.ensures.1
    (key_unresolved c.args.filter.now _ _ (g.R.Rows.seen c.resolve_name.new.names.rows) c.in_err-key.field-0.0 c.in_err-key.ensures.says)

pub returns-in_err-test-clause-says : goal.returns-in_err-test-clause-says
returns-in_err-test-clause-says g c =
    passed_on (λ r. Resolves {X = IdFilter} (g.R.Rows.seen c.args.names.now.rows) (filter_names c.args.filter.now) (λ s by. IsIdFilter s c.args.filter.now by) r (g.R.Rows.seen c.resolve_test.new.names.rows)) c.in_err-test.field-0.0 c.from_residual-in_err-test.result c.from_residual-in_err-test.ensures.1
    (test_unresolved c.args.filter.now _ _ _ c.in_err-test.field-0.0 c.in_ok-key.ensures.says.0 c.in_err-test.ensures.says)

pub returns-clause-says : goal.returns-clause-says
returns-clause-says g c =
    filter_resolved c.args.filter.now _ _ _ (record { key = c.in_ok-key.key; test = c.in_ok-test.test }) c.in_ok-key.ensures.says.0 c.in_ok-key.ensures.says.1 c.in_ok-test.ensures.says.0 c.in_ok-test.ensures.says.1
