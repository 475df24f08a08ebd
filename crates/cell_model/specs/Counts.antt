-- What a store holds, as lines and in numbers.
use Rattle.std.specs.Prelude.{ℕ, List, [], ◌∷◌, map, filter, nat_eq}
use Rattle.std.specs.FinMap.{from_entries, keys}
use Rattle.tsd_base.specs.declared.kinds.Kind.TheVariants.{Metric, TagKey, TagValue}
use Rattle.row_key.specs.declared.tables.Table.TheVariants.{Points}
use Rattle.cell_model.specs.declared.row.Row.{Row}
use Rattle.cell_model.specs.declared.row.ListLine.{ListLine}
use Rattle.cell_model.specs.declared.events.Place.{Place}
use Rattle.cell_model.specs.declared.events.Content.{Content}
use Rattle.cell_model.specs.declared.row.Listing.{Listing}
use Rattle.cell_model.specs.Store.{Store, entries, row_cmp, table_number}
use Rattle.cell_model.specs.Machine.{counter_of}

-- a cell with its place, without its version
abbrev pub line_of : Place × Content → ListLine
line_of e = record { table = e.0.row.table; row = e.0.row.bytes; qual = e.0.qual; value = e.1.value }

-- all cells of a store, rising by table, row and qualifier
abbrev pub lines_of : Store → List ListLine
lines_of s = map line_of (entries s)

-- the same, with the store's widths
abbrev pub listing_of : Store → Listing
listing_of s = record { widths = s.widths; lines = lines_of s }

-- the cells of point rows
abbrev pub point_entries : Store → List (Place × Content)
point_entries s = filter (λ e. nat_eq (table_number e.0.row.table) (table_number Points)) (entries s)

-- the point rows that have a cell, each once
abbrev pub point_rows : Store → List Row
point_rows s = keys (from_entries {R = row_cmp} (map (λ e. (e.0.row, e.0.qual)) (point_entries s)))

-- the counters of metrics, of tag keys and of tag values
abbrev pub counters_of : Store → List ℕ
counters_of s = counter_of s Metric ∷ counter_of s TagKey ∷ counter_of s TagValue ∷ []
