use Rattle.uid_table.specs.IdSteps.{LookMade}
use Rattle.std.proofs.Common.{refl, ap, ◌∙◌}
use Rattle.cell_model.specs.KindWidths.{kind_bytes}
use Rattle.cell_model.specs.Store.{Store}
use Rattle.std.specs.Prelude.{Some}
use Rattle.uid_table.proofs.Making.{none_made, look_made, shown_at}
use Rattle.uid_table.proofs.Shows.{looked, has_width, reads_id}
use Rattle.uid_table.proofs.id_reads.look.Goals as goal

pub returns-in_err-cells-clause-made : goal.returns-in_err-cells-clause-made
returns-in_err-cells-clause-made g c =
    none_made (LookMade (g.R.Rows.seen c.args.rows.now).base.widths c.args.kind c.args.row.now.bytes) _ _ c.from_residual.result c.from_residual.ensures.0 (λ e. refl) c.in_err-cells.ensures.err c.in_err-cells.ensures.lives

pub id_from-requires : goal.id_from-requires
id_from-requires g c =
    let shows = shown_at _ _ _ _ _ refl c.qualifier_bytes.ensures.bytes c.in-Some.ensures in
    has_width _ _ _ _ _ (looked _ _ c.args.kind _ _ _ c.in_ok-cells.ensures.ok c.in_ok-cells.ensures.possible c.requires.row c.requires.named shows) refl

pub returns-in-Some-clause-made : goal.returns-in-Some-clause-made
returns-in-Some-clause-made g c =
    let shows = shown_at _ _ _ _ _ refl c.qualifier_bytes.ensures.bytes c.in-Some.ensures in
    let shown = looked _ _ c.args.kind _ _ _ c.in_ok-cells.ensures.ok c.in_ok-cells.ensures.possible c.requires.row c.requires.named shows in
    let read = reads_id _ _ _ _ _ _ shown refl c.id_from.ensures in
    look_made _ _ c.args.kind c.args.row.now _ _ c.in_ok-cells.ensures.ok c.in_ok-cells.ensures.possible c.requires.row (shows ∙ ap (λ v. Some v) read.value_is ∙ ap (λ (b : Store). Some (kind_bytes b.widths c.args.kind c.id_from.result)) c.in_ok-cells.ensures.ok.base)

pub returns-in-Some-clause-id : goal.returns-in-Some-clause-id
returns-in-Some-clause-id g c =
    let shows = shown_at _ _ _ _ _ refl c.qualifier_bytes.ensures.bytes c.in-Some.ensures in
    let shown = looked _ _ c.args.kind _ _ _ c.in_ok-cells.ensures.ok c.in_ok-cells.ensures.possible c.requires.row c.requires.named shows in
    (reads_id _ _ _ _ _ _ shown refl c.id_from.ensures).shown

pub returns-clause-made : goal.returns-clause-made
returns-clause-made g c =
    let shows = shown_at _ _ _ _ _ refl c.qualifier_bytes.ensures.bytes c.in-None.ensures in
    look_made _ _ c.args.kind c.args.row.now _ _ c.in_ok-cells.ensures.ok c.in_ok-cells.ensures.possible c.requires.row shows
