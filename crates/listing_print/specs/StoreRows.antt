-- The lines of a store from a row on, and the lines of one row.
use Rattle.std.specs.Prelude.{ℕ, List, not, map, filter}
use Rattle.std.specs.Ordering.{is_lt}
use Rattle.qual_codec.specs.declared.cells.Cell.{Cell}
use Rattle.row_key.specs.declared.tables.Table.{Table}
use Rattle.cell_model.specs.declared.row.Row.{Row}
use Rattle.cell_model.specs.declared.row.ListLine.{ListLine}
use Rattle.cell_model.specs.Counts.{line_of}
use Rattle.cell_model.specs.Store.{Store, entries, row_cmp}
use Rattle.listing_print.specs.LineTaking.{TookUpTo}

-- the lines of the cells whose rows aren't before this one
unfoldable pub lines_from : Store → Row → List ListLine
lines_from s row = map line_of (filter (λ e. not (is_lt (row_cmp e.0.row row))) (entries s))

-- a cell of a row as a line
abbrev pub line_in : Row → Cell → ListLine
line_in row c = record { table = row.table; row = row.bytes; qual = c.qual; value = c.value }

-- the lines of a row's cells
unfoldable pub row_lines : Row → List Cell → List ListLine
row_lines row cells = map (line_in row) cells

-- the row of a table with these bytes
abbrev pub row_at : Table → List ℕ → Row
row_at table bytes = record { table = table; bytes = bytes }

-- the lines from one row on and before another were taken
abbrev pub TookRows : {S : Type 0} → (List ListLine → S → S → Type 0) → Store → Row → Row → S → S → Type 0
TookRows took s from to a b = TookUpTo took (lines_from s from) (lines_from s to) a b

-- a front of the lines from a row on was taken, and maybe a part of the next one
abbrev pub TookSome : {S : Type 0} → (List ListLine → S → S → Type 0) → Store → Row → S → S → Type 0
TookSome ended s from a b = ended (lines_from s from) a b
