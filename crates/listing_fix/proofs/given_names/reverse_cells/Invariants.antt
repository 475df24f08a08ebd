use Rattle.listing_fix.proofs.NameCells.{AreGiven}
use Rattle.listing_fix.proofs.given_names.reverse_cells.Given as goal

abbrev pub invariant-loop-at : goal.invariant-loop-at
invariant-loop-at l = AreGiven l.widths l.cells l.at l.more.items
