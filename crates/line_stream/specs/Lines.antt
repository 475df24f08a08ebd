-- Lines of bytes.
use Rattle.std.specs.Prelude.{◌≡◌, ℕ, ◌-◌, ◌<◌, Bool, true, false, nat_eq, nat_lt, List, [], ◌∷◌, ◌++◌, length, take, slice_index, slice_index_or, Option, MatchOption, if◌then◌else◌}
use Rattle.std.specs.List.{list_all, list_any, slice_split}
use Rattle.line_stream.specs.declared.line.TheConstants.{LONGEST_LINE}

-- the bytes of a line without its LF, and whether it has one
pub record Line : Type 0 where
  pub bytes : List ℕ
  pub ended : Bool

abbrev pub whole_line : List ℕ → Line
whole_line bytes = record { bytes = bytes; ended = true }

abbrev pub last_line : List ℕ → Line
last_line bytes = record { bytes = bytes; ended = false }

-- each part that an LF ends, and the last one, that none ends
abbrev pub lines_in : List (List ℕ) → List Line
lines_in [] = []
lines_in (part ∷ []) = last_line part ∷ []
lines_in (part ∷ next ∷ parts) = whole_line part ∷ lines_in (next ∷ parts)

abbrev pub lines_of : List ℕ → List Line
lines_of input = lines_in (slice_split (λ b. nat_eq b 10) input)

-- some byte is an LF
abbrev pub has_line_end : List ℕ → Bool
has_line_end bytes = list_any (λ b. nat_eq b 10) bytes

-- without one CR at the end
abbrev pub without_cr : List ℕ → List ℕ
without_cr bytes = if nat_eq (slice_index_or bytes (length bytes - 1) 0) 13 then take (length bytes - 1) bytes else bytes

-- a CR is dropped before an LF alone
abbrev pub text_of : Line → List ℕ
text_of line = if line.ended then without_cr line.bytes else line.bytes

-- nothing but spaces
abbrev pub is_blank : List ℕ → Bool
is_blank text = list_all (λ b. nat_eq b 32) text

abbrev pub is_too_long : List ℕ → Bool
is_too_long bytes = nat_lt LONGEST_LINE (length bytes)

-- The bytes begin with these lines, and the rest is what stands behind their last LF, whatever more comes.
abbrev pub Splits : List ℕ → List Line → List ℕ → Type 0
Splits bytes lines rest = (more : List ℕ) → lines_of (bytes ++ more) ≡ lines ++ lines_of (rest ++ more)

-- the first LF stands behind so many bytes, or there is none
abbrev pub EndsLine : Option ℕ → List ℕ → Type 0
EndsLine found bytes =
    MatchOption found (has_line_end bytes ≡ false)
    (λ count. (count < length bytes) × (has_line_end (take count bytes) ≡ false) × (slice_index bytes count ≡ 10))
