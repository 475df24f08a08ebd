use Rattle.listing_check.proofs.RowTurns.{begun}
use Rattle.listing_check.proofs.cell_notes.begin_row.Goals as goal

pub returns-then-not-continues_row : goal.returns-then-not-continues_row
returns-then-not-continues_row c = λ widths up k.
    begun widths c.args.cells.now c.args.at c.args.cell.now c.requires up c.clear.new.self c.list.result.now c.list.ensures c.if-not-continues_row.ensures c.clear.ensures
