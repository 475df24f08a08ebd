use Rattle.std.proofs.Common.{◌≡◌, ◌++◌, drop}
use Rattle.cell_listing.specs.Grammar.{cells_text}
use Rattle.cell_listing.proofs.listing_text.cells_text.Given as goal

abbrev pub invariant-loop-at : goal.invariant-loop-at
invariant-loop-at l = l.text.items ++ cells_text (drop l.at l.cells) ≡ cells_text l.cells
