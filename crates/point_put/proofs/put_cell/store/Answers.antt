use Rattle.std.proofs.Common.{sym, ap, subst, ◌∙◌}
use Rattle.tsd_base.specs.Points.{data_point}
use Rattle.row_key.specs.declared.widths.Widths.{Widths}
use Rattle.row_key.specs.Key.{IsKey, key_bytes}
use Rattle.cell_model.specs.Readings.{point_row}
use Rattle.cell_laws.proofs.CallerLemmas.{nothing_made}
use Rattle.point_put.proofs.Layouts.{laid, knows_put, stored, not_stored, no_memory}
use Rattle.point_put.proofs.put_cell.store.Goals as goal

pub row_of-requires : goal.row_of-requires
row_of-requires g c = subst (λ (w : Widths). IsKey w c.args.key.now) (sym c.widths.ensures) c.requires.key.is_key

pub returns-in_err-row-clause-made : goal.returns-in_err-row-clause-made
returns-in_err-row-clause-made g c = no_memory c.args.config.now.appends _ (data_point c.args.point.now) c.from_residual.result c.from_residual.ensures.1 (nothing_made _)

pub write_point-requires : goal.write_point-requires
write_point-requires g c =
    let cell = laid (g.R.Rows.seen c.args.names.now.rows) (data_point c.args.point.now) c.args.key.now c.in_ok-row.row c.qualifier_of-qual.result c.value_of-value.result _ c.list.ensures c.requires.key c.requires.names c.requires.possible (c.in_ok-row.ensures ∙ ap (λ (w : Widths). point_row (key_bytes w c.args.key.now)) c.widths.ensures) c.qualifier_of-qual.ensures c.value_of-value.ensures in
    knows_put (g.R.Rows.seen c.args.names.now.rows) (data_point c.args.point.now) c.args.key.now c.in_ok-row.row c.qualifier_of-qual.result c.value_of-value.result cell

pub returns-in_err-write_point-clause-made : goal.returns-in_err-write_point-clause-made
returns-in_err-write_point-clause-made g c = not_stored c.args.config.now.appends _ _ (data_point c.args.point.now) c.in_err-write_point.field-0.0 c.from_residual-in_err-write_point.result c.from_residual-in_err-write_point.ensures.1 c.in_err-write_point.ensures.err c.in_err-write_point.ensures.lives

pub returns-clause-made : goal.returns-clause-made
returns-clause-made g c =
    let cell = laid (g.R.Rows.seen c.args.names.now.rows) (data_point c.args.point.now) c.args.key.now c.in_ok-row.row c.qualifier_of-qual.result c.value_of-value.result _ c.list.ensures c.requires.key c.requires.names c.requires.possible (c.in_ok-row.ensures ∙ ap (λ (w : Widths). point_row (key_bytes w c.args.key.now)) c.widths.ensures) c.qualifier_of-qual.ensures c.value_of-value.ensures in
    stored c.args.config.now.appends _ _ (data_point c.args.point.now) c.args.key.now c.in_ok-row.row c.qualifier_of-qual.result c.value_of-value.result cell c.in_ok-write_point.ensures.ok c.in_ok-write_point.ensures.possible
