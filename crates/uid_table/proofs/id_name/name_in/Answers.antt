use Rattle.std.proofs.Common.{refl, sym, ap, ◌∙◌}
use Rattle.cell_model.specs.KindWidths.{Widths}
use Rattle.cell_model.specs.IdRows.{id_row}
use Rattle.uid_table.specs.Shown.{HasShownName}
use Rattle.uid_table.specs.IdSteps.{NameMade}
use Rattle.uid_table.proofs.Making.{none_made, shown_at}
use Rattle.uid_table.proofs.NamesThere.{name_there, has_shown_name, reread, no_name, name_made, named_shows, none_shown}
use Rattle.uid_table.proofs.id_name.name_in.Goals as goal

pub returns-in_err-cells-clause-made : goal.returns-in_err-cells-clause-made
returns-in_err-cells-clause-made g c =
    none_made (NameMade (g.R.Rows.seen c.args.rows.now).base.widths c.args.kind c.args.id) _ _ c.from_residual.result c.from_residual.ensures.0 (no_name (g.R.Rows.seen c.args.rows.now).base.widths c.args.kind c.args.id) c.in_err-cells.ensures.err c.in_err-cells.ensures.lives

pub name_from-requires : goal.name_from-requires
name_from-requires g c =
    let shows = shown_at _ _ _ _ _ refl c.qualifier_bytes.ensures.bytes c.in-Some.ensures in
    let step = reread _ _ _ _ _ (c.row_of_id-row.ensures ∙ ap (λ (w : Widths). id_row w c.args.kind c.args.id) c.widths.ensures) c.in_ok-cells.ensures.ok in
    (has_shown_name _ _ c.args.kind c.args.id _ _ step c.in_ok-cells.ensures.possible c.requires shows).is_name

pub unreachable-requires : goal.unreachable-requires
unreachable-requires g c =
    let shows = shown_at _ _ _ _ _ refl c.qualifier_bytes.ensures.bytes c.in-None.ensures in
    let step = reread _ _ _ _ _ (c.row_of_id-row.ensures ∙ ap (λ (w : Widths). id_row w c.args.kind c.args.id) c.widths.ensures) c.in_ok-cells.ensures.ok in
    let there = name_there _ _ c.args.kind c.args.id _ step c.in_ok-cells.ensures.possible c.requires in
    none_shown there.0 (sym shows ∙ there.1)

pub returns-clause-made : goal.returns-clause-made
returns-clause-made g c =
    let shows = shown_at _ _ _ _ _ refl c.qualifier_bytes.ensures.bytes c.in-Some.ensures in
    let step = reread _ _ _ _ _ (c.row_of_id-row.ensures ∙ ap (λ (w : Widths). id_row w c.args.kind c.args.id) c.widths.ensures) c.in_ok-cells.ensures.ok in
    name_made _ _ c.args.kind c.args.id _ _ step c.in_ok-cells.ensures.possible shows c.name_from.result c.name_from.ensures

pub returns-clause-name : goal.returns-clause-name
returns-clause-name g c =
    let shows = shown_at _ _ _ _ _ refl c.qualifier_bytes.ensures.bytes c.in-Some.ensures in
    let step = reread _ _ _ _ _ (c.row_of_id-row.ensures ∙ ap (λ (w : Widths). id_row w c.args.kind c.args.id) c.widths.ensures) c.in_ok-cells.ensures.ok in
    let shown = has_shown_name _ _ c.args.kind c.args.id _ _ step c.in_ok-cells.ensures.possible c.requires shows in
    named_shows (HasShownName (g.R.Rows.seen c.read.new.self) c.args.kind c.args.id) _ c.name_from.result c.name_from.ensures shown
