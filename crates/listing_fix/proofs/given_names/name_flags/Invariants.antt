use Rattle.listing_fix.specs.Steps.{keeps_name}
use Rattle.listing_fix.proofs.NameCells.{AreTested}
use Rattle.listing_fix.proofs.given_names.name_flags.Given as goal

abbrev pub invariant-loop-at : goal.invariant-loop-at
invariant-loop-at l = AreTested (keeps_name l.widths l.cells) l.cells l.at l.flags.items
