use Rattle.listing_check.proofs.OffsetTurns.{SoMany}
use Rattle.listing_check.proofs.row_values.RowValues.add_all.Given as goal

abbrev pub invariant-loop-at : goal.invariant-loop-at
invariant-loop-at l = SoMany l.own l.at l.fn.self l.clashes l.self
