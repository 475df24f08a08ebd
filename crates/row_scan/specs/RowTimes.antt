-- The points of a row at their times.
use Rattle.std.specs.Prelude.{◌≡◌, ℕ, ℤ, ◌+◌, ◌*◌, ◌<◌, List, map, filter, AllPairs}
use Rattle.qual_codec.specs.declared.cells.Cell.{Cell}
use Rattle.qual_codec.specs.declared.cells.Dot.{Dot}
use Rattle.qual_codec.specs.CellDots.{ArePieces}
use Rattle.qual_codec.specs.Merge.{MergesTo, is_within}

-- the point of a dot, whose hour begins at this second
abbrev pub dot_at : ℕ → Dot → ℕ × ℤ
dot_at base x = (base * 1000 + x.item.offset, x.value)

-- the points are those that merging the cells keeps in the range of offsets
abbrev pub KeepsPoints : List Cell → ℕ → ℕ → ℕ → List (ℕ × ℤ) → Type 0
KeepsPoints cells base first last points = (kept : List Dot) × MergesTo cells first last kept × (points ≡ map (dot_at base) kept)

-- the value is that of a column whose dots rise by offset, and the points are those of its dots in the range
pub record IsColumnRead (value : List ℕ) (base first last : ℕ) (points : List (ℕ × ℤ)) : Type 0 where
  pub dots : List Dot
  pub pieces : ArePieces value dots
  pub rising : AllPairs (λ (d e : Dot). d.item.offset < e.item.offset) dots
  pub points_are : points ≡ map (dot_at base) (filter (is_within first last) dots)
