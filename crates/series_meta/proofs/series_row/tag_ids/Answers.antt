use Rattle.std.proofs.Common.{ℕ, [], ◌∷◌}
use Rattle.cell_model.specs.Layout.{tag_names}
use Rattle.uid_table.specs.ShownKeys.{IdsShown}
use Rattle.metric_scan.specs.ResolvedIds.{Resolves}
use Rattle.series_meta.proofs.NameLooks.{passed_on, key_unresolved, value_unresolved, tag_resolved}
use Rattle.series_meta.proofs.series_row.tag_ids.Goals as goal

pub returns-in_err-key-clause-says : goal.returns-in_err-key-clause-says
returns-in_err-key-clause-says g c =
    passed_on (λ r. Resolves {X = ℕ × ℕ} (g.R.Rows.seen c.args.names.now.rows) (tag_names (c.args.tag.now ∷ [])) (λ s ids. IdsShown s c.args.tag.now ids) r (g.R.Rows.seen c.resolve_name.new.names.rows)) c.in_err-key.field-0.0 c.from_residual.result c.from_residual.ensures.1
    (key_unresolved c.args.tag.now _ _ (g.R.Rows.seen c.resolve_name.new.names.rows) c.in_err-key.field-0.0 c.in_err-key.ensures.says)

pub returns-in_err-value-clause-says : goal.returns-in_err-value-clause-says
returns-in_err-value-clause-says g c =
    passed_on (λ r. Resolves {X = ℕ × ℕ} (g.R.Rows.seen c.args.names.now.rows) (tag_names (c.args.tag.now ∷ [])) (λ s ids. IdsShown s c.args.tag.now ids) r (g.R.Rows.seen c.resolve_name-2.new.names.rows)) c.in_err-value.field-0.0 c.from_residual-in_err-value.result c.from_residual-in_err-value.ensures.1
    (value_unresolved c.args.tag.now _ _ _ c.in_err-value.field-0.0 c.in_ok-key.ensures.says.0 c.in_err-value.ensures.says)

pub returns-clause-says : goal.returns-clause-says
returns-clause-says g c =
    tag_resolved c.args.tag.now _ _ _ (c.in_ok-key.key, c.in_ok-value.value) c.in_ok-key.ensures.says.0 c.in_ok-key.ensures.says.1 c.in_ok-value.ensures.says.0 c.in_ok-value.ensures.says.1
