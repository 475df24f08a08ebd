-- The points of one row in a range of times.
use Rattle.std.specs.Prelude.{◌≡◌, ℕ, ℤ, ◌+◌, ◌*◌, ◌<◌, ◌≤◌, List, Contains, None, Some, Result, Ok, Err}
use Rattle.qual_codec.specs.declared.cells.Cell.{Cell}
use Rattle.qual_codec.specs.declared.cells.Dot.{Dot}
use Rattle.qual_codec.specs.Merge.{AreDots, values_at, first_conflict}
pub use Rattle.row_scan.specs.RowTimes.{dot_at}
use Rattle.metric_scan.specs.declared.fault.AskFault.{AskFault}
use Rattle.metric_scan.specs.declared.fault.AskFault.TheVariants.{Duplicate, OutOfMemory}

abbrev pub IsIn : ℕ → ℕ → ℕ → Type 0
IsIn start end time = (start ≤ time) × (time ≤ end)

-- the points are those of the cells in the range of times, and at none of these the cells have two values
pub record HasDots (cells : List Cell) (base start end : ℕ) (dots : List (ℕ × ℤ)) : Type 0 where
  pub all : List Dot
  pub are : AreDots cells all
  pub each : (d : ℕ × ℤ) → Contains dots d → (x : Dot) × Contains all x × (d ≡ dot_at base x) × IsIn start end d.0
  pub there : (x : Dot) → Contains all x → IsIn start end (base * 1000 + x.item.offset) → Contains dots (dot_at base x)
  pub one : (offset : ℕ) → IsIn start end (base * 1000 + offset) → first_conflict (values_at offset all) ≡ None

-- the least time in the range at which the cells have two values
pub record Conflicts (cells : List Cell) (base start end time : ℕ) (a b : ℤ) : Type 0 where
  pub all : List Dot
  pub are : AreDots cells all
  pub offset : ℕ
  pub time_is : time ≡ base * 1000 + offset
  pub within : IsIn start end time
  pub values : first_conflict (values_at offset all) ≡ Some (a, b)
  pub least : (lower : ℕ) → start ≤ base * 1000 + lower → lower < offset → first_conflict (values_at lower all) ≡ None

abbrev pub DotsAsked : List Cell → ℕ → ℕ → ℕ → Result (List (ℕ × ℤ)) AskFault → Type 0
DotsAsked cells base start end (Ok dots) = HasDots cells base start end dots
DotsAsked cells base start end (Err (Duplicate time a b)) = Conflicts cells base start end time a b
DotsAsked cells base start end (Err OutOfMemory) = Unit {0}
DotsAsked cells base start end (Err fault) = ⊥
