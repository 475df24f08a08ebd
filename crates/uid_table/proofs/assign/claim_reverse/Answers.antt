use Rattle.std.proofs.Common.{refl, ap, ◌∙◌}
use Rattle.cell_model.specs.KindWidths.{Widths}
use Rattle.cell_model.specs.IdRows.{id_row}
use Rattle.cell_model.specs.Store.{Store}
use Rattle.uid_table.specs.IdSteps.{ReverseMade}
use Rattle.cell_laws.proofs.CallerLemmas.{given_free}
use Rattle.uid_table.proofs.Making.{recast, none_made, reverse_made, bumped_is_id}
use Rattle.uid_table.proofs.assign.claim_reverse.Goals as goal

pub unreachable-requires : goal.unreachable-requires
unreachable-requires g c =
    let row_is = c.row_of_id-row.ensures ∙ ap (λ (w : Widths). id_row w c.args.kind c.args.id) c.widths.ensures ∙ ap (λ (b : Store). id_row b.widths c.args.kind c.args.id) c.requires.given.1.base in
    let claim = recast _ _ _ _ _ _ _ _ _ _ row_is c.qualifier-qual.ensures refl c.in-Held.is c.in_ok-claimed.ensures.ok in
    given_free _ _ _ c.args.kind c.args.id c.args.name.now.bytes _ c.requires.given.1 claim c.in_ok-claimed.ensures.possible

pub returns-in_err-claimed-clause-made : goal.returns-in_err-claimed-clause-made
returns-in_err-claimed-clause-made g c =
    none_made (ReverseMade (g.R.Rows.seen c.args.rows.now).base.widths c.args.kind c.args.name.now.bytes c.args.id) _ _ c.from_residual.result c.from_residual.ensures.0 (λ e. refl) c.in_err-claimed.ensures.err c.in_err-claimed.ensures.lives

pub returns-clause-made : goal.returns-clause-made
returns-clause-made g c =
    reverse_made _ _ c.args.kind c.args.name.now.bytes c.args.id (recast _ _ _ _ _ _ _ _ _ _ (c.row_of_id-row.ensures ∙ ap (λ (w : Widths). id_row w c.args.kind c.args.id) c.widths.ensures) c.qualifier-qual.ensures refl c.in-Done.is c.in_ok-claimed.ensures.ok) c.in_ok-claimed.ensures.possible

pub returns-clause-id : goal.returns-clause-id
returns-clause-id g c = bumped_is_id _ _ _ c.args.kind c.args.id _ _ c.requires.given.1 c.in_ok-claimed.ensures.ok c.in_ok-claimed.ensures.possible
