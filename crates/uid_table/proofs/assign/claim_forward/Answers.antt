use Rattle.std.proofs.Common.{refl, ap, ◌∙◌}
use Rattle.cell_model.specs.KindWidths.{Widths, kind_bytes}
use Rattle.cell_model.specs.Store.{Store}
use Rattle.cell_model.specs.declared.answers.Claimed.TheVariants.{Held}
use Rattle.uid_table.specs.IdSteps.{ForwardMade}
use Rattle.uid_table.proofs.Making.{recast, none_made, forward_done, forward_held}
use Rattle.uid_table.proofs.Shows.{claim_shows, shown_cell, held_cell, has_width, reads_id}
use Rattle.uid_table.proofs.assign.claim_forward.Goals as goal

pub returns-in_err-claimed-clause-made : goal.returns-in_err-claimed-clause-made
returns-in_err-claimed-clause-made g c =
    none_made (ForwardMade (g.R.Rows.seen c.args.rows.now).base.widths c.args.kind c.args.name.now.bytes c.args.id) _ _ c.from_residual.result c.from_residual.ensures.0 (λ e. refl) c.in_err-claimed.ensures.err c.in_err-claimed.ensures.lives

pub returns-in-Done-clause-made : goal.returns-in-Done-clause-made
returns-in-Done-clause-made g c =
    let claim = recast _ _ _ _ _ _ _ _ _ _ c.requires.row c.qualifier-qual.ensures (c.bytes_of_id-value.ensures ∙ ap (λ (w : Widths). kind_bytes w c.args.kind c.args.id) c.widths.ensures) c.in-Done.is c.in_ok-claimed.ensures.ok in
    forward_done _ _ c.args.kind c.args.name.now.bytes c.args.id claim c.in_ok-claimed.ensures.possible

pub returns-in-Done-clause-id : goal.returns-in-Done-clause-id
returns-in-Done-clause-id g c =
    let claim = recast _ _ _ _ _ _ _ _ _ _ c.requires.row c.qualifier-qual.ensures (c.bytes_of_id-value.ensures ∙ ap (λ (w : Widths). kind_bytes w c.args.kind c.args.id) c.widths.ensures) c.in-Done.is c.in_ok-claimed.ensures.ok in
    claim_shows _ _ c.args.kind c.args.name.now.bytes c.args.id c.requires.id c.requires.named claim

pub id_from-holder-requires : goal.id_from-holder-requires
id_from-holder-requires g c =
    let claim = recast _ _ _ _ _ _ _ _ _ _ c.requires.row c.qualifier-qual.ensures (c.bytes_of_id-value.ensures ∙ ap (λ (w : Widths). kind_bytes w c.args.kind c.args.id) c.widths.ensures) c.in-Held.is c.in_ok-claimed.ensures.ok in
    let shown = shown_cell _ c.args.kind c.args.name.now.bytes _ c.in_ok-claimed.ensures.possible c.requires.named (held_cell _ _ _ _ _ _ claim) in
    has_width _ _ _ _ _ shown c.list.ensures

pub returns-clause-made : goal.returns-clause-made
returns-clause-made g c =
    let claim = recast _ _ _ _ _ _ _ _ _ _ c.requires.row c.qualifier-qual.ensures (c.bytes_of_id-value.ensures ∙ ap (λ (w : Widths). kind_bytes w c.args.kind c.args.id) c.widths.ensures) c.in-Held.is c.in_ok-claimed.ensures.ok in
    let shown = shown_cell _ c.args.kind c.args.name.now.bytes _ c.in_ok-claimed.ensures.possible c.requires.named (held_cell _ _ _ _ _ _ claim) in
    let read = reads_id _ _ _ _ _ _ shown c.list.ensures c.id_from-holder.ensures in
    forward_held _ _ c.args.kind c.args.name.now.bytes c.args.id c.id_from-holder.result (recast _ _ _ _ _ _ _ _ _ _ refl refl refl (ap (λ v. Held v) (read.value_is ∙ ap (λ (b : Store). kind_bytes b.widths c.args.kind c.id_from-holder.result) c.in_ok-claimed.ensures.ok.base)) claim) c.in_ok-claimed.ensures.possible

pub returns-clause-id : goal.returns-clause-id
returns-clause-id g c =
    let claim = recast _ _ _ _ _ _ _ _ _ _ c.requires.row c.qualifier-qual.ensures (c.bytes_of_id-value.ensures ∙ ap (λ (w : Widths). kind_bytes w c.args.kind c.args.id) c.widths.ensures) c.in-Held.is c.in_ok-claimed.ensures.ok in
    let shown = shown_cell _ c.args.kind c.args.name.now.bytes _ c.in_ok-claimed.ensures.possible c.requires.named (held_cell _ _ _ _ _ _ claim) in
    (reads_id _ _ _ _ _ _ shown c.list.ensures c.id_from-holder.ensures).shown
