use Rattle.listing_fix.proofs.Chosen.{IsPicked}
use Rattle.listing_fix.proofs.stayers.drop_unflagged.Given as goal

abbrev pub invariant-loop-at : goal.invariant-loop-at
invariant-loop-at l = IsPicked l.flags l.initial.cells.items l.cells.items l.kept l.at
