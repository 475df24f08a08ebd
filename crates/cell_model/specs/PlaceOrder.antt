-- The order of places: by table, then by row, then by qualifier.
use Rattle.std.specs.Prelude.{ℕ}
use Rattle.std.specs.declared.cmp.Ordering.{Ordering}
use Rattle.std.specs.Ordering.{nat_cmp, ordering_then}
use Rattle.list_lemmas.specs.BytesOrder.{bytes_cmp}
use Rattle.row_key.specs.declared.tables.Table.{Table}
use Rattle.row_key.specs.declared.tables.Table.TheVariants.{Ids, Names, Points}
use Rattle.cell_model.specs.declared.row.Row.{Row}
use Rattle.cell_model.specs.declared.events.Place.{Place}

-- the tables in the order in which they stand
abbrev pub table_number : Table → ℕ
table_number Ids = 0
table_number Names = 1
table_number Points = 2

-- by table, then by the bytes
abbrev pub row_cmp : Row → Row → Ordering
row_cmp a b = ordering_then (nat_cmp (table_number a.table) (table_number b.table)) (bytes_cmp a.bytes b.bytes)

-- by row, then by qualifier
abbrev pub place_cmp : Place → Place → Ordering
place_cmp a b = ordering_then (row_cmp a.row b.row) (bytes_cmp a.qual b.qual)
