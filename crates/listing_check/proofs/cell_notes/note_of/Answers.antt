use Rattle.listing_check.proofs.RowTurns.{flawed_by}
use Rattle.listing_check.proofs.cell_notes.note_of.Goals as goal

pub returns-in-Some : goal.returns-in-Some
returns-in-Some c =
    flawed_by c.args.widths c.args.cells.now c.args.at c.args.cell.now c.requires.is c.args.flaw _ _ c.in-Some.is c.requires.flaw (c.begin_row.ensures c.args.widths c.requires.rising c.requires.seen)
