-- Which region of the store has a row.
use Rattle.std.specs.Prelude.{◌≡◌, ℕ, ◌+◌, ◌-◌, ◌%◌, ◌<◌, ◌≤◌, List, [], ◌∷◌, nat_lt, nat_eq, slice_index, if◌then◌else◌}
use Rattle.row_key.specs.declared.tables.Table.{Table}
use Rattle.row_key.specs.declared.tables.Table.TheVariants.{Ids, Names, Points}
use Rattle.row_key.specs.declared.regions.TheConstants.{NAME_REGIONS}
use Rattle.row_key.specs.declared.widths.Widths.{Widths}
use Rattle.row_key.specs.declared.keys.RowKey.{RowKey}
use Rattle.row_key.specs.Key.{IsKey, key_bytes}

-- the region of a name by its first byte: below A, below a, below n, and the rest
abbrev pub name_region : ℕ → ℕ
name_region b = if nat_lt b 65 then 1 else (if nat_lt b 97 then 2 else (if nat_lt b 110 then 3 else 4))

-- the row of the counters, which is the byte 0 alone, has region 0 for itself
abbrev pub ids_region : List ℕ → ℕ
ids_region [] = 1
ids_region (b ∷ []) = if nat_eq b 0 then 0 else name_region b
ids_region (b ∷ c ∷ bs) = name_region b

abbrev pub last_byte : List ℕ → ℕ
last_byte [] = 0
last_byte (b ∷ []) = b
last_byte (b ∷ c ∷ bs) = last_byte (c ∷ bs)

-- of a point row it is the last byte of the metric's id, and 0 where the row hasn't that byte
abbrev pub metric_byte : Widths → List ℕ → ℕ
metric_byte w row = slice_index row (w.metric - 1)

-- the region of a row where ids have these widths and there are so many data regions
abbrev pub region_number : Widths → ℕ → Table → List ℕ → ℕ
region_number w data_regions Ids row = ids_region row
region_number w data_regions Names row = 5 + last_byte row % 4
region_number w data_regions Points row = NAME_REGIONS + metric_byte w row % data_regions

-- each row has one of these regions
abbrev pub RegionsEnd : Type 0
RegionsEnd = (w : Widths) (data_regions : ℕ) (table : Table) (row : List ℕ) → 1 ≤ data_regions → region_number w data_regions table row < NAME_REGIONS + data_regions

-- the rows of a metric are in one region, which is told by its id alone
abbrev pub MetricsAreWhole : Type 0
MetricsAreWhole = (w : Widths) (data_regions : ℕ) (key : RowKey) → IsKey w key → region_number w data_regions Points (key_bytes w key) ≡ NAME_REGIONS + key.metric % 256 % data_regions
