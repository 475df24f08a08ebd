-- What a caller that is alone made of its store.
use Rattle.std.specs.Prelude.{◌≡◌, ℕ, Bool, true, false, List, Some}
use Rattle.std.specs.Option.{option_map_or}
use Rattle.std.specs.Int.{w64, from_be_bytes}
use Rattle.tsd_base.specs.declared.kinds.Kind.TheVariants.{Metric}
use Rattle.qual_codec.specs.declared.cells.Cell.{Cell}
use Rattle.qual_codec.specs.CellDots.{column_qual}
use Rattle.row_key.specs.declared.tables.Table.TheVariants.{Points}
use Rattle.row_key.specs.declared.keys.RowKey.{RowKey}
use Rattle.row_key.specs.Key.{IsKey, key_bytes}
use Rattle.cell_model.specs.declared.row.Row.{Row}
use Rattle.cell_model.specs.Deeds.{Since}
use Rattle.cell_model.specs.History.{first, store_after}
use Rattle.cell_model.specs.Machine.{counter_of, kind_qual}
use Rattle.cell_model.specs.Readings.{point_row}
use Rattle.cell_model.specs.Seen.{Seen, InEach}
use Rattle.cell_model.specs.Store.{Store, content_at, value_among, value_at}
use Rattle.import_job.specs.Compactions.{IsCompacted, IsRowLeft}

-- the caller saw more, and in each lawful history that fits the store between the two is changed so
pub record Changes (P : Store → Store → Type 0) (old new : Seen) : Type 0 where
  pub since : Since old new
  pub so : InEach new (λ h. P (store_after (first old.length h)) (store_after (first new.length h)))

-- the store is the same, and so many ids of metrics were given
abbrev pub CountsMetrics : ℕ → Store → Store → Type 0
CountsMetrics count s t = (t ≡ s) × (counter_of s Metric ≡ count)

-- the number in the counter among these cells
abbrev pub number_among : List Cell → ℕ
number_among cells = option_map_or (from_be_bytes w64) (value_among cells (kind_qual Metric)) 0

-- each row has the same there, but this one
abbrev pub AllButRow : Store → Store → Row → Type 0
AllButRow s t row = (other : Row) (qual : List ℕ) → (other ≡ row → ⊥) → content_at t other qual ≡ content_at s other qual

-- no point was appended to the row's column
abbrev pub LacksColumn : Store → Row → Type 0
LacksColumn s row = (value : List ℕ) → value_at s row column_qual ≡ Some value → ⊥

-- this one row was compacted
pub record CompactsRow (row : Row) (s t : Store) : Type 0 where
  pub widths : t.widths ≡ s.widths
  pub others : AllButRow s t row
  pub left : LacksColumn s row → IsRowLeft s t row

-- the row is one of the metric
abbrev pub IsOfMetric : Store → ℕ → Row → Type 0
IsOfMetric s metric row = (key : RowKey) × IsKey s.widths key × (key.metric ≡ metric) × (row ≡ point_row (key_bytes s.widths key))

-- each row of the metric was compacted, and all else stayed
pub record CompactsMetric (metric : ℕ) (s t : Store) : Type 0 where
  pub widths : t.widths ≡ s.widths
  pub others : (row : Row) (qual : List ℕ) → (IsOfMetric s metric row → ⊥) → content_at t row qual ≡ content_at s row qual
  pub rows : (row : Row) → IsOfMetric s metric row → LacksColumn s row → IsRowLeft s t row

-- each row of points was compacted, where no point was appended
abbrev pub CompactsAll : Store → Store → Type 0
CompactsAll s t = ((row : Row) → row.table ≡ Points → LacksColumn s row) → IsCompacted s t

-- each row of points was compacted where that is asked, and else nothing changed
abbrev pub MakesIf : Bool → Store → Store → Type 0
MakesIf true s t = CompactsAll s t
MakesIf false s t = t ≡ s
