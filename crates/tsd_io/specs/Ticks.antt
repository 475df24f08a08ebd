-- The moments that a clock will give and the number of its calls, where it tells them.
use Rattle.std.specs.Prelude.{◌≡◌, ℕ, List, [], ◌∷◌, Option, None, Some}
use Rattle.tsd_io.specs.Memory.{one_more}

-- the clock gave the first moment and takes it off, but the last one stays
abbrev pub Ticks : Option (List ℕ) → ℕ → Option (List ℕ) → Type 0
Ticks None moment after = after ≡ None
Ticks (Some []) moment after = ⊥
Ticks (Some (first ∷ [])) moment after = (moment ≡ first) × (after ≡ Some (first ∷ []))
Ticks (Some (first ∷ next ∷ later)) moment after = (moment ≡ first) × (after ≡ Some (next ∷ later))

-- a call is counted, whatever it answered
abbrev pub IsCalled : Option ℕ → Option ℕ → Type 0
IsCalled None after = after ≡ None
IsCalled (Some calls) after = after ≡ Some (one_more calls)
