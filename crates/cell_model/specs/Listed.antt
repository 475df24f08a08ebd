-- The store that the lines of a listing tell.
use Rattle.std.specs.Prelude.{map}
use Rattle.std.specs.FinMap.{from_entries}
use Rattle.cell_model.specs.declared.row.ListLine.{ListLine}
use Rattle.cell_model.specs.declared.events.Place.{Place}
use Rattle.cell_model.specs.declared.events.Content.{Content}
use Rattle.cell_model.specs.Rising.{place_of_line}
use Rattle.cell_model.specs.declared.row.Listing.{Listing}
use Rattle.cell_model.specs.Store.{Store}

-- what a line writes, and where: no cell has a version yet
abbrev pub entry_of_line : ListLine → Place × Content
entry_of_line l = (place_of_line l, record { value = l.value; version = 0 })

-- the store of a listing
abbrev pub store_of : Listing → Store
store_of l = record { widths = l.widths; cells = from_entries (map entry_of_line l.lines) }
