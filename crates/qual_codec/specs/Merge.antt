-- What merging the cells of a row keeps, and when two of them conflict.
use Rattle.std.specs.Prelude.{◌≡◌, ℕ, ℤ, ◌<◌, ◌≤◌, Bool, not, ◌&&◌, List, [], ◌∷◌, ◌++◌, map, filter, find, AllPairs, Contains, Option, None, Some, option_map, nat_eq, nat_le}
use Rattle.std.specs.Ordering.{int_eq}
use Rattle.row_hours.specs.declared.hours.TheConstants.{LAST_OFFSET}
use Rattle.qual_codec.specs.declared.cells.Cell.{Cell}
use Rattle.qual_codec.specs.declared.cells.Dot.{Dot}
use Rattle.qual_codec.specs.declared.cells.MergeFault.{MergeFault}
use Rattle.qual_codec.specs.declared.cells.MergeFault.TheVariants.{Conflict, OutOfMemory}
use Rattle.qual_codec.specs.CellDots.{HoldsDots, IsDots}
use Rattle.qual_codec.specs.Order.{IsAsGood}

-- these are the dots of the cells, one cell after the other, and within the column in its order
abbrev pub AreDots : List Cell → List Dot → Type 0
AreDots [] all = all ≡ []
AreDots (c ∷ cells) all = (dots : List Dot) × (rest : List Dot) × HoldsDots c.qual c.value dots × AreDots cells rest × (all ≡ dots ++ rest)

abbrev pub offset_of : Dot → ℕ
offset_of d = d.item.offset

-- the dot's offset is in the range, both ends included
abbrev pub is_within : ℕ → ℕ → Dot → Bool
is_within first last d = nat_le first d.item.offset && nat_le d.item.offset last

-- the values that they have at an offset, in their order
abbrev pub values_at : ℕ → List Dot → List ℤ
values_at offset dots = map (λ (d : Dot). d.value) (filter (λ (d : Dot). nat_eq offset d.item.offset) dots)

-- two of the values conflict where they differ: the first value, and the first that differs from it
abbrev pub first_conflict : List ℤ → Option (ℤ × ℤ)
first_conflict [] = None
first_conflict (a ∷ values) = option_map (λ b. (a, b)) (find (λ b. not (int_eq a b)) values)

-- of each offset in the range that the dots have the best one, rising by offset; and at none of them is a conflict
pub record Keeps (all : List Dot) (first last : ℕ) (kept : List Dot) : Type 0 where
  pub rising : AllPairs (λ (d e : Dot). d.item.offset < e.item.offset) kept
  pub each : (d : Dot) → Contains kept d → Contains all d × (first ≤ d.item.offset) × (d.item.offset ≤ last)
  pub best : (d : Dot) → Contains all d → first ≤ d.item.offset → d.item.offset ≤ last → (e : Dot) × Contains kept e × IsAsGood d.item e.item
  pub one_value : (offset : ℕ) → first ≤ offset → offset ≤ last → first_conflict (values_at offset all) ≡ None

-- the least offset in the range at which the dots conflict, and the two values there
pub record Conflicts (all : List Dot) (first last offset : ℕ) (a b : ℤ) : Type 0 where
  pub from_on : first ≤ offset
  pub up_to : offset ≤ last
  pub values : first_conflict (values_at offset all) ≡ Some (a, b)
  pub least : (lower : ℕ) → first ≤ lower → lower < offset → first_conflict (values_at lower all) ≡ None

-- why the dots aren't merged in the range of offsets
abbrev pub ConflictsAt : List Dot → ℕ → ℕ → MergeFault → Type 0
ConflictsAt all first last (Conflict offset a b) = Conflicts all first last offset a b
ConflictsAt all first last OutOfMemory = Unit {0}

-- what merging the cells keeps in the range of offsets
abbrev pub MergesTo : List Cell → ℕ → ℕ → List Dot → Type 0
MergesTo cells first last kept = (all : List Dot) × AreDots cells all × Keeps all first last kept

-- why the cells aren't merged in the range of offsets
abbrev pub TellsConflict : List Cell → ℕ → ℕ → MergeFault → Type 0
TellsConflict cells first last (Conflict offset a b) = (all : List Dot) × AreDots cells all × Conflicts all first last offset a b
TellsConflict cells first last OutOfMemory = Unit {0}

-- the cell of what merging the cells keeps, of all offsets of the hour
pub record IsMerged (cells : List Cell) (qual value : List ℕ) : Type 0 where
  pub dots : List Dot
  pub kept : MergesTo cells 0 LAST_OFFSET dots
  pub reads : IsDots qual value dots
