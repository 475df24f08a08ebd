-- At how many times of its hour a row has data points.
use Rattle.std.specs.Prelude.{◌≡◌, ℕ, ◌<◌, List, length, AllPairs, Contains, pos}
use Rattle.qual_codec.specs.declared.cells.Cell.{Cell}
use Rattle.qual_codec.specs.declared.cells.Dot.{Dot}
use Rattle.qual_codec.specs.Merge.{AreDots}

-- these are the offsets of the data points, each once and rising
pub record AreOffsets (dots : List Dot) (offsets : List ℕ) : Type 0 where
  pub rising : AllPairs (λ i j. i < j) offsets
  pub each : (offset : ℕ) → Contains offsets offset → (d : Dot) × Contains dots d × (d.item.offset ≡ offset)
  pub there : (d : Dot) → Contains dots d → Contains offsets d.item.offset

-- so many are the offsets of the cells' data points
pub record CountsOffsets (cells : List Cell) (count : ℕ) : Type 0 where
  pub dots : List Dot
  pub are_dots : AreDots cells dots
  pub offsets : List ℕ
  pub are : AreOffsets dots offsets
  pub count_is : count ≡ length offsets

-- a data point of the same item, with the value 0
abbrev pub without_value : Dot → Dot
without_value d = record { item = d.item; value = pos 0 }
