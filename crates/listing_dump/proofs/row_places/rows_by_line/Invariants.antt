use Rattle.listing_dump.specs.RowPlaces.{AreRowsTo}
use Rattle.listing_dump.proofs.row_places.rows_by_line.Given as goal

abbrev pub invariant-loop-at : goal.invariant-loop-at
invariant-loop-at l = AreRowsTo l.widths l.cells l.rows.items l.at
