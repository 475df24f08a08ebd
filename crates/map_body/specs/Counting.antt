-- The cells of the counters' row.
use Rattle.std.specs.Prelude.{◌≡◌, ◌≤◌, ℕ, List, [], ◌∷◌, ◌++◌, Some, nat_eq, option_map, if◌then◌else◌}
use Rattle.std.specs.Option.{option_map_or}
use Rattle.std.specs.Int.{w64, to_be_bytes, from_be_bytes}
use Rattle.std.specs.FinMap.{get, from_entries}
use Rattle.tsd_base.specs.declared.kinds.Kind.{Kind}
use Rattle.tsd_base.specs.declared.kinds.Kind.TheVariants.{Metric, TagKey, TagValue}
use Rattle.cell_model.specs.KindWidths.{Widths, most_ids}
use Rattle.cell_model.specs.Machine.{kind_qual}
use Rattle.cell_model.specs.Sound.{IsCounter}
use Rattle.packed_cells.specs.Keyed.{CellMap}
use Rattle.map_body.specs.declared.counters.Counter.{Counter}

-- three numbers of ids given, each up to the greatest id of four bytes
abbrev pub AreCounts : ℕ → ℕ → ℕ → Type 0
AreCounts metric tag_key tag_value = (metric ≤ most_ids 4) × (tag_key ≤ most_ids 4) × (tag_value ≤ most_ids 4)

-- a counter's cell: a counter that is 0 has none
abbrev pub shown : Kind → Counter → List (List ℕ × (List ℕ × ℕ))
shown kind c = if nat_eq c.number 0 then [] else (kind_qual kind, (to_be_bytes w64 c.number, c.version)) ∷ []

abbrev pub counter_cells : Counter → Counter → Counter → CellMap
counter_cells metric tag_key tag_value = from_entries (shown Metric metric ++ (shown TagKey tag_key ++ shown TagValue tag_value))

-- the number that a kind's cell has, 0 where there is none
abbrev pub number_in : CellMap → Kind → ℕ
number_in cells kind = option_map_or (from_be_bytes w64) (option_map (λ c. c.0) (get cells (kind_qual kind))) 0

-- each cell is a counter up to the greatest id of its kind
abbrev pub AllCounters : Widths → CellMap → Type 0
AllCounters w cells = (qual value : List ℕ) (version : ℕ) → get cells qual ≡ Some (value, version) → IsCounter w qual value
