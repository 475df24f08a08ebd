-- The lines of a body's elements.
use Rattle.std.specs.Prelude.{◌≡◌, ℕ, Bool, true, false, zero, suc, ◌-◌, ◌≤◌, List, [], ◌∷◌, get_or, take, drop, Some}
use Rattle.json.specs.Token.{Token}
use Rattle.serde_json.specs.Data.{Data, array}
use Rattle.serde_json.specs.Read.{read}
use Rattle.serde_json.specs.View.{items_of}
use Rattle.put_bodies.specs.BodyTapes.{GoesOnWith}
use Rattle.put_bodies.specs.ElementLines.{IsLineOf}

-- pieces of a text, which end at these places
abbrev pub lines_in : ℕ → List ℕ → List ℕ → List (List ℕ)
lines_in from [] text = []
lines_in from (end ∷ ends) text = take (end - from) (drop from text) ∷ lines_in end ends text

-- where the piece at a place begins
abbrev pub start_of : ℕ → List ℕ → ℕ → ℕ
start_of from ends zero = from
start_of from ends (suc k) = get_or ends k 0

-- the places rise, up to the text's end
abbrev pub Rise : ℕ → List ℕ → ℕ → Type 0
Rise from [] size = from ≡ size
Rise from (end ∷ ends) size = (from ≤ end) × (end ≤ size) × Rise end ends size

-- each line is of the element at its place
abbrev pub AreLinesOf : List (List ℕ) → List Data → Type 0
AreLinesOf [] [] = Unit {0}
AreLinesOf [] (d ∷ ds) = ⊥
AreLinesOf (line ∷ lines) [] = ⊥
AreLinesOf (line ∷ lines) (d ∷ ds) = IsLineOf line d × AreLinesOf lines ds

-- the text is a list of elements, and the lines are of them
pub record HasLines (text : List ℕ) (lines : List (List ℕ)) : Type 0 where
  pub elements : List Data
  pub reads : read text ≡ Some (array (items_of elements))
  pub are : AreLinesOf lines elements

-- the line is of the first of these elements, and the tokens go on with the others; or there is none
abbrev pub IsTurn : List Data → Bool → List ℕ → List Token → Type 0
IsTurn elements true line after = (d : Data) × (rest : List Data) × (elements ≡ d ∷ rest) × IsLineOf line d × GoesOnWith after rest
IsTurn elements false line after = elements ≡ []
