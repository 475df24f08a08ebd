use Rattle.std.proofs.Common.{sym, ◌∙◌}
use Rattle.cell_model.proofs.Following.{above_last}
use Rattle.cell_model.proofs.row.is_above.Goals as goal

pub returns-in-Some : goal.returns-in-Some
returns-in-Some c = c.is_before.ensures ∙ above_last c.args.lines.now c.in-Some.last.now _ c.requires (sym c.in-Some.ensures.value)
