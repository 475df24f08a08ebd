use Rattle.listing_fix.proofs.FirstCells.{IsTaken}
use Rattle.listing_fix.proofs.cell_order.keep_firsts.Given as goal

abbrev pub invariant-loop-at : goal.invariant-loop-at
invariant-loop-at l = IsTaken l.initial.cells.items l.cells.items l.kept l.at
