-- The one spelling of a data point.
use Rattle.std.specs.Prelude.{◌≡◌, ℕ, ℤ, ◌%◌, ◌≤◌, Bool, false, List, [], ◌∷◌, length, FitsSigned}
use Rattle.row_hours.specs.declared.hours.TheConstants.{LAST_OFFSET}
use Rattle.qual_codec.specs.declared.cells.Dot.{Dot}
use Rattle.qual_codec.specs.Items.{IsLength, item_bytes}
use Rattle.qual_codec.specs.CellDots.{IsDots, width_of, number_bytes}

-- the bytes are the number in two's complement, in the least of 1, 2, 4 and 8 bytes that holds it
pub record IsShortest (value : ℤ) (bytes : List ℕ) : Type 0 where
  pub len : IsLength (length bytes)
  pub fits : FitsSigned (width_of (length bytes)) value
  pub bytes_are : bytes ≡ number_bytes (length bytes) value
  pub least : (n : ℕ) → IsLength n → FitsSigned (width_of n) value → length bytes ≤ n

-- a number has one such spelling
abbrev pub ShortestIsUnique : Type 0
ShortestIsUnique = (value : ℤ) (a b : List ℕ) → IsShortest value a → IsShortest value b → a ≡ b

-- the data point of this offset, form and value, which has so many bytes
abbrev pub dot_of : ℕ → Bool → ℤ → ℕ → Dot
dot_of offset fine value len = record { item = record { offset = offset; fine = fine; len = len }; value = value }

-- what is written for a data point, at each offset, in each form, with each value, reads as this data point alone
abbrev pub PointsReadBack : Type 0
PointsReadBack =
    (offset : ℕ) (fine : Bool) (value : ℤ) (bytes : List ℕ) → offset ≤ LAST_OFFSET → (fine ≡ false → offset % 1000 ≡ 0) → IsShortest value bytes
    → let d = dot_of offset fine value (length bytes) in IsDots (item_bytes d.item) bytes (d ∷ [])
