use Rattle.std.proofs.Common.{◌≡◌, ◌∷◌, ◌++◌, drop}
use Rattle.hex.specs.Hex.{encode_lower}
use Rattle.cell_listing.proofs.listing_text.push_word.Given as goal

abbrev pub invariant-loop-b : goal.invariant-loop-b
invariant-loop-b l = l.text.items ++ encode_lower (drop l.b-index l.bytes) ≡ l.fn.text.items ++ 32 ∷ encode_lower l.bytes
