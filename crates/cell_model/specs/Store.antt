-- The store: how many bytes the ids of each kind have, and a finite map from a row and a qualifier to a value with its version. A row without a cell isn't there.
use Rattle.std.specs.Prelude.{ℕ, ◌+◌, Bool, false, ◌&&◌, not, List, [], ◌∷◌, ◌++◌, map, filter, find, Option, None, Some, option_map, nat_eq, nat_le, if◌then◌else◌}
use Rattle.std.specs.Ordering.{nat_cmp, eq_by_cmp, is_lt}
use Rattle.std.specs.Cmp.Lexicographic.{pointwise}
pub use Rattle.cell_model.specs.PlaceOrder.{table_number, row_cmp, place_cmp}
use Rattle.list_lemmas.specs.BytesOrder.{bytes_cmp}
use Rattle.std.specs.FinMap.{FinMap, empty}
use Rattle.std.specs.FinMap as fin
use Rattle.row_key.specs.declared.widths.Widths.{Widths}
use Rattle.row_key.specs.declared.tables.Table.{Table}
use Rattle.cell_model.specs.declared.row.Row.{Row}
use Rattle.cell_model.specs.declared.events.Place.{Place}
use Rattle.cell_model.specs.declared.events.Content.{Content}
use Rattle.qual_codec.specs.declared.cells.Cell.{Cell}
use Rattle.qual_codec.specs.CellDots.{column_qual}
use Rattle.cell_model.specs.declared.row.Found.{Found}

-- what stands at each place that has a cell
abbrev pub StoreCells : Type 0
StoreCells = FinMap place_cmp Content

-- the store: the widths of its ids, and its cells
pub record Store : Type 0 where
  pub widths : Widths
  pub cells : StoreCells

-- the store without a cell
abbrev pub no_cells : Widths → Store
no_cells w = record { widths = w; cells = empty }

-- what stands at a place
abbrev pub get : Store → Place → Option Content
get s p = fin.get s.cells p

-- all cells with their places, rising by place
abbrev pub entries : Store → List (Place × Content)
entries s = fin.entries s.cells

-- the store with this content at a place, over an older one too
abbrev pub insert : Store → Place → Content → Store
insert s p c = record { widths = s.widths; cells = fin.insert s.cells p c }

-- the store with nothing at a place
abbrev pub remove : Store → Place → Store
remove s p = record { widths = s.widths; cells = fin.remove s.cells p }

-- the store with the cells of another one
abbrev pub with_cells : Store → Store → Store
with_cells s t = record { widths = s.widths; cells = t.cells }

-- the place of a row's cell
abbrev pub place_of : Row → List ℕ → Place
place_of row qual = record { row = row; qual = qual }

-- the value and version of a row's cell, where it has one of this qualifier
abbrev pub content_at : Store → Row → List ℕ → Option Content
content_at s row qual = get s (place_of row qual)

-- the value of a row's cell
abbrev pub value_at : Store → Row → List ℕ → Option (List ℕ)
value_at s row qual = option_map (λ c. c.value) (content_at s row qual)

-- the store with this cell written, over an older one too
abbrev pub written : Store → Row → List ℕ → List ℕ → ℕ → Store
written s row qual value version = insert s (place_of row qual) (record { value = value; version = version })

-- the bytes that stand there, none where no value does
abbrev pub or_nothing : Option (List ℕ) → List ℕ
or_nothing None = []
or_nothing (Some value) = value

-- the store with these bytes behind those of the row's column, where points are appended
abbrev pub appended : Store → Row → List ℕ → ℕ → Store
appended s row piece version = written s row column_qual (or_nothing (value_at s row column_qual) ++ piece) version

-- the store with another version over this content, if there is one
abbrev pub stamped_over : Option Content → Store → Row → List ℕ → ℕ → Store
stamped_over None s row qual version = s
stamped_over (Some c) s row qual version = written s row qual c.value version

-- an entry of the store as a cell of its row
abbrev pub cell_of : Place × Content → Cell
cell_of e = record { qual = e.0.qual; value = e.1.value; version = e.1.version }

-- the cells of a row, in byte order of qualifier
abbrev pub cells_of : Store → Row → List Cell
cells_of s row = map cell_of (filter (λ e. eq_by_cmp row_cmp row e.0.row) (entries s))

-- the row is of the table, not before `from` and before `to`
abbrev pub is_between : Table → List ℕ → List ℕ → Row → Bool
is_between table from to row =
    eq_by_cmp nat_cmp (table_number table) (table_number row.table) && not (is_lt (bytes_cmp row.bytes from)) && is_lt (bytes_cmp row.bytes to)

-- the least row from `from` on and below `to`, with its cells: the store's entries rise by row
abbrev pub next_row_of : Store → Table → List ℕ → List ℕ → Option Found
next_row_of s table from to =
    option_map (λ e. record { row = e.0.row; cells = cells_of s e.0.row }) (find (λ e. is_between table from to e.0.row) (entries s))

-- whether a drop with this greatest version takes what stands there
abbrev pub is_dropped : Option Content → ℕ → Bool
is_dropped None version = false
is_dropped (Some c) version = nat_le c.version version

-- the store without the cells that the list names and whose versions aren't above the list's
abbrev pub dropped : Store → Row → List (List ℕ × ℕ) → Store
dropped s row [] = s
dropped s row (d ∷ list) =
    dropped (if is_dropped (content_at s row d.0) d.1 then remove s (place_of row d.0) else s) row list

-- how many that removes
abbrev pub drop_count : Store → Row → List (List ℕ × ℕ) → ℕ
drop_count s row [] = 0
drop_count s row (d ∷ list) =
    if is_dropped (content_at s row d.0) d.1 then drop_count (remove s (place_of row d.0)) row list + 1 else drop_count s row list

-- two byte strings are one
abbrev pub same_bytes : List ℕ → List ℕ → Bool
same_bytes = pointwise nat_eq

-- the value that cells of one row have at a qualifier
abbrev pub value_among : List Cell → List ℕ → Option (List ℕ)
value_among cells qual = option_map (λ (c : Cell). c.value) (find (λ (c : Cell). same_bytes c.qual qual) cells)

-- the store with another version at a place, if a cell is there
abbrev pub stamped : Store → Row → List ℕ → ℕ → Store
stamped s row qual version = stamped_over (content_at s row qual) s row qual version
