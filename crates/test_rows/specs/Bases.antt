-- Lines of names and ids that a history may begin with.
use Rattle.std.specs.Prelude.{◌≡◌, ◌≢◌, ℕ, List, [], ◌∷◌, Option}
use Rattle.tsd_base.specs.declared.kinds.Kind.{Kind}
use Rattle.row_key.specs.Made.{three}
use Rattle.row_key.specs.declared.tables.Table.{Table}
use Rattle.row_key.specs.declared.tables.Table.TheVariants.{Ids, Names, Points}
use Rattle.cell_model.specs.declared.row.ListLine.{ListLine}
use Rattle.cell_model.specs.declared.row.Listing.{Listing}
use Rattle.cell_model.specs.declared.row.Row.{Row}
use Rattle.cell_model.specs.Store.{value_at}
use Rattle.cell_model.specs.Machine.{counter_of}
use Rattle.cell_model.specs.Listed.{store_of}
use Rattle.cell_model.specs.Sound.{IsCounter, IsForward, IsReverse}

-- the value that lines have at a qualifier of a row, and the counter of a kind: whatever the widths
abbrev pub line_value : List ListLine → Row → List ℕ → Option (List ℕ)
line_value lines row qual = value_at (store_of (record { widths = three; lines = lines })) row qual

abbrev pub line_counter : List ListLine → Kind → ℕ
line_counter lines kind = counter_of (store_of (record { widths = three; lines = lines })) kind

-- what the parts of a line of this table have to be
abbrev pub IsSoundIn : Listing → Table → List ℕ → List ℕ → List ℕ → Type 0
IsSoundIn listing Ids row qual value = (row ≡ 0 ∷ [] → IsCounter listing.widths qual value) × (row ≢ 0 ∷ [] → IsForward (store_of listing) row qual value)
IsSoundIn listing Names row qual value = IsReverse (store_of listing) row qual value
IsSoundIn listing Points row qual value = ⊥

-- the line is a counter, the id of a name or the name of an id, by what the listing has
abbrev pub IsSoundLine : Listing → ListLine → Type 0
IsSoundLine listing l = IsSoundIn listing l.table l.row l.qual l.value
