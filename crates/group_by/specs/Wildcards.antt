-- Texts in which a `*` stands for any text.
use Rattle.std.specs.Prelude.{◌≡◌, ℕ, Bool, false, ◌&&◌, ◌||◌, List, [], ◌∷◌, ◌++◌, length, take, drop, Option, None, Some}
use Rattle.tsd_base.specs.TagList.{is_same}
use Rattle.query_text.specs.Cuts.{parts_by}

-- the value begins with this, and what stands behind it passes
abbrev pub begins : List ℕ → (List ℕ → Bool) → List ℕ → Bool
begins part passes value = is_same (take (length part) value) part && passes (drop (length part) value)

-- some end of the value passes, the whole value or a shorter one
abbrev pub some_end : (List ℕ → Bool) → List ℕ → Bool
some_end passes [] = passes []
some_end passes (byte ∷ value) = passes (byte ∷ value) || some_end passes value

-- the value is these parts in order, with some text between each two
abbrev pub fills : List (List ℕ) → List ℕ → Bool
fills [] value = false
fills (part ∷ []) value = is_same part value
fills (part ∷ next ∷ parts) value = begins part (some_end (fills (next ∷ parts))) value

-- the value is the text with each `*` in it replaced by some text
abbrev pub fits : List ℕ → List ℕ → Bool
fits text value = fills (parts_by 42 text) value

-- the same of the parts, said without a test
abbrev pub IsFilled : List (List ℕ) → List ℕ → Type 0
IsFilled [] value = ⊥
IsFilled (part ∷ []) value = value ≡ part
IsFilled (part ∷ next ∷ parts) value = (text rest : List ℕ) × (value ≡ part ++ (text ++ rest)) × IsFilled (next ∷ parts) rest

-- The value is the text with each `*` in it replaced by some text, perhaps an empty one.
abbrev pub Fits : List ℕ → List ℕ → Type 0
Fits text value = IsFilled (parts_by 42 text) value

-- where a part was found, what stands behind it passes
abbrev pub passes_behind : (List ℕ → Bool) → Option (List ℕ) → Bool
passes_behind passes None = false
passes_behind passes (Some rest) = passes rest
