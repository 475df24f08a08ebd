-- Texts cut at bytes.
use Rattle.std.specs.Prelude.{ℕ, ◌+◌, Bool, false, nat_eq, List, take, drop, position, Option, None, Some}
use Rattle.std.specs.Option.{option_map}
use Rattle.std.specs.List.{slice_split}

-- the place of the first such byte
abbrev pub place_of : ℕ → List ℕ → Option ℕ
place_of byte text = position (λ b. nat_eq b byte) text

abbrev pub up_to : List ℕ → Option ℕ → List ℕ
up_to text None = text
up_to text (Some at) = take at text

-- what stands before the first such byte, or all
abbrev pub before : ℕ → List ℕ → List ℕ
before byte text = up_to text (place_of byte text)

-- what stands behind the first such byte, if it is there
abbrev pub behind : ℕ → List ℕ → Option (List ℕ)
behind byte text = option_map (λ at. drop (at + 1) text) (place_of byte text)

-- the parts between such bytes
abbrev pub parts_by : ℕ → List ℕ → List (List ℕ)
parts_by byte text = slice_split (λ b. nat_eq b byte) text

-- whether this byte is there
abbrev pub is_byte : ℕ → Option ℕ → Bool
is_byte byte None = false
is_byte byte (Some b) = nat_eq b byte
