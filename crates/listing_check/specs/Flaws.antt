-- What is wrong with a cell among others: the first of the flaws that applies.
use Rattle.std.specs.Prelude.{◌≡◌, ℕ, Bool, true, false, ◌&&◌, nat_lt, List, map, Contains, Option, None, Some, option_map, option_and_then, unwrap_or, if◌then◌else◌}
use Rattle.std.specs.List.{list_all}
use Rattle.std.specs.FinMap.{find}
use Rattle.tsd_base.specs.Alphabet.{is_name}
use Rattle.tsd_base.specs.declared.kinds.Kind.{Kind}
use Rattle.tsd_base.specs.declared.kinds.Kind.TheVariants.{Metric, TagKey, TagValue}
use Rattle.row_key.specs.declared.tables.Table.{Table}
use Rattle.row_key.specs.declared.tables.Table.TheVariants.{Ids, Names, Points}
use Rattle.row_key.specs.declared.keys.RowKey.{RowKey}
use Rattle.row_key.specs.Key.{IsKey, key_bytes}
use Rattle.qual_codec.specs.CellDots.{Reads}
use Rattle.cell_model.specs.declared.row.Row.{Row}
use Rattle.cell_model.specs.declared.row.ListLine.{ListLine}
use Rattle.cell_model.specs.declared.events.Content.{Content}
use Rattle.cell_model.specs.Store.{place_cmp, place_of, same_bytes}
use Rattle.cell_model.specs.Machine.{counter_row, kind_qual}
use Rattle.cell_model.specs.KindWidths.{Widths, kind_bytes}
use Rattle.cell_model.specs.IdRows.{id_row, name_row}
use Rattle.cell_model.specs.Listed.{entry_of_line}
use Rattle.listing_check.specs.UidCells.{UidCell, counter_spelled, uid_in}
use Rattle.listing_check.specs.UidCells.UidCell.{Counter, Forward, Reverse}
use Rattle.listing_check.specs.declared.report.Flaw.{Flaw}
use Rattle.listing_check.specs.declared.report.Flaw.TheVariants.{BadUidCell, AboveCounter, NoName, BadKey, RowNoName, BadCell}

-- the value that stands in a row at a qualifier: that of the first such cell
abbrev pub value_in : List ListLine → Row → List ℕ → Option (List ℕ)
value_in cells row qual = option_map (λ (c : Content). c.value) (find place_cmp (place_of row qual) (map entry_of_line cells))

-- the greatest id given, where its cell reads; else 0
abbrev pub counter_in : Widths → List ListLine → Kind → ℕ
counter_in w cells kind = unwrap_or (option_and_then (counter_spelled w kind) (value_in cells counter_row (kind_qual kind))) 0

-- these bytes stand there
abbrev pub is_value : List ℕ → Option (List ℕ) → Bool
is_value bytes None = false
is_value bytes (Some value) = same_bytes value bytes

-- the id has this name
abbrev pub has_name : Widths → List ListLine → Kind → ℕ → List ℕ → Bool
has_name w cells kind id name = is_value name (value_in cells (id_row w kind id) (kind_qual kind))

-- the name has this id
abbrev pub has_id : Widths → List ListLine → Kind → List ℕ → ℕ → Bool
has_id w cells kind name id = is_value (kind_bytes w kind id) (value_in cells (name_row name) (kind_qual kind))

-- what stands for an id is a name that has this id
abbrev pub is_named_by : Widths → List ListLine → Kind → ℕ → Option (List ℕ) → Bool
is_named_by w cells kind id None = false
is_named_by w cells kind id (Some name) = is_name name && has_id w cells kind name id

abbrev pub is_named : Widths → List ListLine → Kind → ℕ → Bool
is_named w cells kind id = is_named_by w cells kind id (value_in cells (id_row w kind id) (kind_qual kind))

abbrev pub pair_named : Widths → List ListLine → ℕ × ℕ → Bool
pair_named w cells p = is_named w cells TagKey p.0 && is_named w cells TagValue p.1

-- each id of the key is named
abbrev pub all_named : Widths → List ListLine → RowKey → Bool
all_named w cells key = is_named w cells Metric key.metric && list_all (pair_named w cells) key.pairs.items

-- the first flaw of a cell of ids or of names
abbrev pub uid_flaw : Widths → List ListLine → Option UidCell → Option Flaw
uid_flaw w cells None = Some BadUidCell
uid_flaw w cells (Some (Counter kind number)) = None
uid_flaw w cells (Some (Forward kind name id)) =
    if nat_lt (counter_in w cells kind) id then Some AboveCounter
    else if has_name w cells kind id name then None
    else Some NoName
uid_flaw w cells (Some (Reverse kind id name)) = if nat_lt (counter_in w cells kind) id then Some AboveCounter else None

-- the row is the key's
abbrev pub IsKeyOf : Widths → List ℕ → RowKey → Type 0
IsKeyOf w row key = IsKey w key × (row ≡ key_bytes w key)

-- the first flaw of a cell of points, or none
abbrev pub PointFlaw : Widths → List ListLine → List ℕ → List ℕ → List ℕ → Option Flaw → Type 0
PointFlaw w cells row qual value None = (key : RowKey) × IsKeyOf w row key × (all_named w cells key ≡ true) × Reads qual value
PointFlaw w cells row qual value (Some BadKey) = (key : RowKey) → IsKeyOf w row key → ⊥
PointFlaw w cells row qual value (Some RowNoName) = (key : RowKey) × IsKeyOf w row key × (all_named w cells key ≡ false)
PointFlaw w cells row qual value (Some BadCell) = (key : RowKey) × IsKeyOf w row key × (all_named w cells key ≡ true) × (Reads qual value → ⊥)
PointFlaw w cells row qual value (Some _) = ⊥

-- the first flaw of a cell, or none
abbrev pub FlawIn : Widths → List ListLine → Table → List ℕ → List ℕ → List ℕ → Option Flaw → Type 0
FlawIn w cells Ids row qual value flaw = flaw ≡ uid_flaw w cells (uid_in w Ids row qual value)
FlawIn w cells Names row qual value flaw = flaw ≡ uid_flaw w cells (uid_in w Names row qual value)
FlawIn w cells Points row qual value flaw = PointFlaw w cells row qual value flaw

abbrev pub FlawOf : Widths → List ListLine → ListLine → Option Flaw → Type 0
FlawOf w cells l flaw = FlawIn w cells l.table l.row l.qual l.value flaw

-- none of the cells has a flaw
abbrev pub NoFlaw : Widths → List ListLine → Type 0
NoFlaw w cells = (l : ListLine) → Contains cells l → FlawOf w cells l None
