-- The lines of a point row among cells that rise: one behind the other.
use Rattle.std.specs.Prelude.{◌≡◌, ℕ, ◌-◌, ◌<◌, ◌≤◌, Bool, true, false, not, ◌&&◌, nat_eq, List, length, drop, take, Option, None, Some, if◌then◌else◌}
use Rattle.std.specs.List.{slice_get}
use Rattle.row_key.specs.declared.tables.Table.{Table}
use Rattle.row_key.specs.declared.tables.Table.TheVariants.{Ids, Names, Points}
use Rattle.qual_codec.specs.declared.cells.Cell.{Cell}
use Rattle.cell_model.specs.declared.row.ListLine.{ListLine}
use Rattle.cell_model.specs.Store.{same_bytes}

abbrev pub is_points : Table → Bool
is_points Ids = false
is_points Names = false
is_points Points = true

-- the line is of this point row
abbrev pub is_of_row : List ℕ → ListLine → Bool
is_of_row row l = is_points l.table && same_bytes l.row row

-- the line at this place, if there is one, is of this row
abbrev pub has_row : List ℕ → Option ListLine → Bool
has_row row None = false
has_row row (Some l) = is_of_row row l

-- the line before this place is of this row
abbrev pub row_before : List ListLine → ℕ → List ℕ → Bool
row_before cells at row = if nat_eq at 0 then false else has_row row (slice_get cells (at - 1))

-- a line of points, and none of its row is right before it
abbrev pub begins_row : List ListLine → ℕ → ListLine → Bool
begins_row cells at l = is_points l.table && not (row_before cells at l.row)

-- a line as a cell of its row, which has no version
abbrev pub cell_of_line : ListLine → Cell
cell_of_line l = record { qual = l.qual; value = l.value; version = 0 }

-- the lines from one place on up to another
abbrev pub lines_between : List ListLine → ℕ → ℕ → List ListLine
lines_between cells from to = take (to - from) (drop from cells)

-- the lines of this row go from this place up to that one
pub record EndsRow (cells : List ListLine) (from to : ℕ) (row : List ℕ) : Type 0 where
  pub within : to ≤ length cells
  pub later : from < to
  pub each : (at : ℕ) (l : ListLine) → from ≤ at → at < to → slice_get cells at ≡ Some l → is_of_row row l ≡ true
  pub end : has_row row (slice_get cells to) ≡ false
