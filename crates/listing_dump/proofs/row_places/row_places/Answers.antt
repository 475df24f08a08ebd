use Rattle.listing_dump.proofs.RowTurns.{rows_sorted}
use Rattle.listing_dump.proofs.row_places.row_places.Goals as goal

pub returns : goal.returns
returns c = rows_sorted c.args.widths c.args.cells.now c.in_ok-rows.rows.items c.sort_unstable.new.self.items c.in_ok-rows.ensures c.sort_unstable.ensures.permutation c.sort_unstable.ensures.sorted
