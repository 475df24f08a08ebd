-- The rows of a table, as a finite map from their bytes to their cells.
use Rattle.std.specs.Prelude.{ℕ, List, filter, not}
use Rattle.std.specs.Ordering.{is_le}
use Rattle.std.specs.Coded.{Coded, coded×, coded_ℕ, coded_list}
use Rattle.std.specs.FinMap.{FinMap, code}
use Rattle.list_lemmas.specs.BytesOrder.{bytes_cmp}
use Rattle.packed_cells.specs.Keyed.{CellMap, coded_cells}

abbrev pub Rows : Type 0
Rows = FinMap bytes_cmp CellMap

abbrev pub coded_rows : Coded Rows
coded_rows = code (coded_list coded_ℕ) coded_cells

-- a list of rows is stored so
abbrev pub coded_list_of_rows : Coded (List (List ℕ × CellMap))
coded_list_of_rows = coded_list (coded× (coded_list coded_ℕ) coded_cells)

-- the rows below these bytes, and those from them on
abbrev pub rows_below : List ℕ → List (List ℕ × CellMap) → List (List ℕ × CellMap)
rows_below to rows = filter (λ r. not (is_le (bytes_cmp to r.0))) rows

abbrev pub rows_from : List ℕ → List (List ℕ × CellMap) → List (List ℕ × CellMap)
rows_from from rows = filter (λ r. is_le (bytes_cmp from r.0)) rows
