-- A store of which each row of points was compacted once.
use Rattle.std.specs.Prelude.{◌≡◌, ◌↔◌, ℕ, ℤ, ◌<◌, ◌≤◌, List, length, Some}
use Rattle.row_key.specs.declared.tables.Table.TheVariants.{Points}
use Rattle.row_hours.specs.declared.hours.TheConstants.{LAST_OFFSET}
use Rattle.qual_codec.specs.declared.cells.MergeFault.TheVariants.{Conflict}
use Rattle.qual_codec.specs.Merge.{IsMerged, TellsConflict}
use Rattle.cell_model.specs.declared.row.Row.{Row}
use Rattle.cell_model.specs.Store.{Store, cells_of, value_at}

-- the row has the same cells in both
abbrev pub HasSame : Store → Store → Row → Type 0
HasSame s t row = (qual : List ℕ) → value_at t row qual ≡ value_at s row qual

-- what a compaction leaves of a row: in place of two or more cells without a conflict the one cell that they become, and else all of them
pub data IsRowLeft (s t : Store) (row : Row) : Type 0 where
  merged : {qual value : List ℕ} → 2 ≤ length (cells_of s row) → IsMerged (cells_of s row) qual value → ((q v : List ℕ) → value_at t row q ≡ Some v ↔ ((q ≡ qual) × (v ≡ value))) → IsRowLeft s t row
  few : length (cells_of s row) < 2 → HasSame s t row → IsRowLeft s t row
  conflict : (offset : ℕ) (a b : ℤ) → 2 ≤ length (cells_of s row) → TellsConflict (cells_of s row) 0 LAST_OFFSET (Conflict offset a b) → HasSame s t row → IsRowLeft s t row

-- each row of points was compacted, and all else stayed
pub record IsCompacted (s t : Store) : Type 0 where
  pub widths : t.widths ≡ s.widths
  pub others : (row : Row) → (row.table ≡ Points → ⊥) → HasSame s t row
  pub rows : (row : Row) → row.table ≡ Points → IsRowLeft s t row
