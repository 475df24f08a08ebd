-- What is said of the rows of one table.
use Rattle.std.specs.Prelude.{◌≡◌, ◌≢◌, ℕ, ◌+◌, List, [], ◌∷◌, sum_by, Some, unwrap_or, Bool, not, ◌&&◌, if◌then◌else◌}
use Rattle.std.specs.Ordering.{is_lt}
use Rattle.std.specs.FinMap.{get, empty, entries, len}
use Rattle.list_lemmas.specs.BytesOrder.{bytes_cmp}
use Rattle.packed_cells.specs.Keyed.{CellMap, goes, without}
use Rattle.row_pages.specs.RowMaps.{Rows}

-- how many cells rows have
abbrev pub cells_among : List (List ℕ × CellMap) → ℕ
cells_among rows = sum_by (λ r. len r.1) rows

abbrev pub count_of : Rows → ℕ
count_of rows = cells_among (entries rows)

-- the cells of a row, none where the row isn't there
abbrev pub row_in : Rows → List ℕ → CellMap
row_in rows bytes = unwrap_or (get rows bytes) empty

-- no row is without a cell
abbrev pub NoneEmpty : Rows → Type 0
NoneEmpty rows = (bytes : List ℕ) (cells : CellMap) → get rows bytes ≡ Some cells → cells ≢ empty

-- the bytes are from `from` on and below `to`
abbrev pub is_within : List ℕ → List ℕ → List ℕ → Bool
is_within from to bytes = not (is_lt (bytes_cmp bytes from)) && is_lt (bytes_cmp bytes to)

-- one row has these cells now, and every other row is as before
pub record ChangesRow (old new : Rows) (bytes : List ℕ) (cells : CellMap) : Type 0 where
  pub here : row_in new bytes ≡ cells
  pub others : (other : List ℕ) → other ≢ bytes → row_in new other ≡ row_in old other

-- what is left of cells when each that the list names goes, if its version isn't above the list's; and how many go
abbrev pub left : CellMap → List (List ℕ × ℕ) → CellMap
left m [] = m
left m (d ∷ list) = left (without m d.0 d.1) list

abbrev pub gone : CellMap → List (List ℕ × ℕ) → ℕ
gone m [] = 0
gone m (d ∷ list) = if goes (get m d.0) d.1 then gone (without m d.0 d.1) list + 1 else gone (without m d.0 d.1) list
