-- The store that tables and counters make.
use Rattle.std.specs.Prelude.{◌≡◌, ℕ, List, [], ◌∷◌, ◌++◌, map, slice_index_or, nat_eq, if◌then◌else◌}
use Rattle.std.specs.FinMap.{empty, insert, entries, from_entries, len}
use Rattle.row_key.specs.declared.tables.Table.{Table}
use Rattle.row_key.specs.declared.tables.Table.TheVariants.{Ids, Names, Points}
use Rattle.cell_model.specs.declared.row.Row.{Row}
use Rattle.cell_model.specs.declared.row.ListLine.{ListLine}
use Rattle.cell_model.specs.declared.events.Place.{Place}
use Rattle.cell_model.specs.declared.events.Content.{Content}
use Rattle.cell_model.specs.PlaceOrder.{table_number}
use Rattle.cell_model.specs.KindWidths.{Widths}
use Rattle.cell_model.specs.Store.{Store, place_of}
use Rattle.cell_model.specs.Counts.{line_of}
use Rattle.cell_model.specs.Sound.{IsCounter}
use Rattle.packed_cells.specs.Keyed.{CellMap}
use Rattle.map_body.specs.TableRows.{row_in}
use Rattle.row_pages.specs.RowMaps.{Rows}

-- the rows of a table among those of all
abbrev pub rows_at : List Rows → Table → Rows
rows_at tables table = slice_index_or tables (table_number table) empty

-- the rows of Ids with that of the counters, which isn't there without a cell
abbrev pub with_counters : CellMap → Rows → Rows
with_counters counters ids = if nat_eq (len counters) 0 then ids else insert ids (0 ∷ []) counters

-- rows with their table
abbrev pub tagged : Table → List (List ℕ × CellMap) → List (Row × CellMap)
tagged table rows = map (λ r. (record { table = table; bytes = r.0 }, r.1)) rows

-- all rows, in their order
abbrev pub all_rows : List Rows → CellMap → List (Row × CellMap)
all_rows tables counters =
    tagged Ids (entries (with_counters counters (rows_at tables Ids))) ++ (tagged Names (entries (rows_at tables Names)) ++ tagged Points (entries (rows_at tables Points)))

-- a cell of a row as an entry of the store
abbrev pub content_of : List ℕ × ℕ → Content
content_of c = record { value = c.0; version = c.1 }

abbrev pub placed : Row → List ℕ × (List ℕ × ℕ) → Place × Content
placed row e = (place_of row e.0, content_of e.1)

-- the cells of rows, row by row
abbrev pub flat : List (Row × CellMap) → List (Place × Content)
flat [] = []
flat (r ∷ rows) = map (placed r.0) (entries r.1) ++ flat rows

-- the store of tables and counters, where ids have these widths
abbrev pub store_in : Widths → List Rows → CellMap → Store
store_in w tables counters = record { widths = w; cells = from_entries (flat (all_rows tables counters)) }

-- the lines of a table's rows
abbrev pub lines_in : Table → List (List ℕ × CellMap) → List ListLine
lines_in table rows = map line_of (flat (tagged table rows))

-- the row of the counters isn't kept among the others
abbrev pub NoCounterRow : List Rows → Type 0
NoCounterRow tables = row_in (rows_at tables Ids) (0 ∷ []) ≡ empty

-- a line of the counters' row is a counter
abbrev pub HasNoFlaw : Widths → ListLine → Type 0
HasNoFlaw w l = l.table ≡ Ids → l.row ≡ 0 ∷ [] → IsCounter w l.qual l.value
