-- Readings: what the cells of a row say, what stands, and what was accepted.
use Rattle.std.specs.Prelude.{◌≡◌, ◌⊎◌, ℕ, ℤ, ◌+◌, ◌*◌, Bool, true, false, List, ◌++◌, Contains, Option, Some}
use Rattle.tsd_base.specs.declared.kinds.Kind.{Kind}
use Rattle.tsd_base.specs.declared.kinds.Kind.TheVariants.{Metric, TagKey, TagValue}
use Rattle.tsd_base.specs.TagList.{Pair, RiseByKey}
use Rattle.tsd_base.specs.Points.{DataPoint}
use Rattle.row_key.specs.declared.tables.Table.TheVariants.{Points}
use Rattle.row_key.specs.declared.widths.Widths.{Widths}
use Rattle.row_key.specs.declared.keys.RowKey.{RowKey}
use Rattle.row_key.specs.Key.{IsKey, key_bytes}
use Rattle.qual_codec.specs.declared.cells.Dot.{Dot}
use Rattle.qual_codec.specs.CellDots.{HoldsDots}
use Rattle.cell_model.specs.declared.row.Row.{Row}
use Rattle.cell_model.specs.declared.events.Step.{Step}
use Rattle.cell_model.specs.declared.events.Step.TheVariants.{PutPoint, AppendPoint}
use Rattle.cell_model.specs.declared.events.Entry.{Entry}
use Rattle.cell_model.specs.Store.{Store, value_at}
use Rattle.cell_model.specs.History.{History, base_of, store_after, Had}
use Rattle.cell_model.specs.IdRows.{name_of}

-- a value of a series at a time in milliseconds: a point without its form
pub record Reading : Type 0 where
  pub metric : List ℕ
  pub tags : List Pair
  pub time : ℕ
  pub value : ℤ

-- the reading of a point
abbrev pub reading_of : DataPoint → Reading
reading_of p = record { metric = p.metric; tags = p.tags; time = p.time; value = p.value }

-- they have one series and one time
pub record Meets (a b : Reading) : Type 0 where
  pub metric : a.metric ≡ b.metric
  pub tags : a.tags ≡ b.tags
  pub time : a.time ≡ b.time

-- no two of them have one series and one time and different values
abbrev pub OneValued : (Reading → Type 0) → Type 0
OneValued P = (a b : Reading) → P a → P b → Meets a b → a.value ≡ b.value

-- a point row
abbrev pub point_row : List ℕ → Row
point_row bytes = record { table = Points; bytes = bytes }

-- the two ids of a pair have these names
abbrev pub IsNamed : (Kind → ℕ → Option (List ℕ)) → ℕ × ℕ → Pair → Type 0
IsNamed names p t = (names TagKey p.0 ≡ Some t.0) × (names TagValue p.1 ≡ Some t.1)

-- tags that rise by key, in place of pairs of ids
pub record Named (names : Kind → ℕ → Option (List ℕ)) (pairs : List (ℕ × ℕ)) (tags : List Pair) : Type 0 where
  pub rising : RiseByKey tags
  pub each : (p : ℕ × ℕ) → Contains pairs p → (t : Pair) × Contains tags t × IsNamed names p t
  pub back : (t : Pair) → Contains tags t → (p : ℕ × ℕ) × Contains pairs p × IsNamed names p t

-- one data point of the row is this reading, with these names
pub record DotReads (w : Widths) (names : Kind → ℕ → Option (List ℕ)) (row : List ℕ) (d : Dot) (r : Reading) : Type 0 where
  pub key : RowKey
  pub is_key : IsKey w key
  pub row_is : row ≡ key_bytes w key
  pub metric_is : names Metric key.metric ≡ Some r.metric
  pub tags_are : Named names key.pairs.items r.tags
  pub time_is : r.time ≡ key.base * 1000 + d.item.offset
  pub value_is : r.value ≡ d.value

-- a cell of the row has this reading, with these names
pub record CellReads (w : Widths) (names : Kind → ℕ → Option (List ℕ)) (row qual value : List ℕ) (r : Reading) : Type 0 where
  pub dots : List Dot
  pub reads : HoldsDots qual value dots
  pub dot : Dot
  pub among : Contains dots dot
  pub dot_reads : DotReads w names row dot r

-- a point cell of the store has the reading, with these names
pub record HasReading (names : Kind → ℕ → Option (List ℕ)) (s : Store) (r : Reading) : Type 0 where
  pub row : List ℕ
  pub qual : List ℕ
  pub value : List ℕ
  pub stands : value_at s (point_row row) qual ≡ Some value
  pub reads : CellReads s.widths names row qual value r

-- the reading stands after the history
abbrev pub IsStanding : History → Reading → Type 0
IsStanding h r = HasReading (name_of h) (store_after h) r

-- the step that stores a point in this row: with appends it adds the qualifier and then the value to the row's column, else it puts them as a cell
abbrev pub store_step : Bool → DataPoint → Row → List ℕ → List ℕ → Step
store_step true point row qual value = AppendPoint point row (qual ++ value)
store_step false point row qual value = PutPoint point row qual value

-- the step puts or appends a point of this reading
abbrev pub IsPut : Step → Reading → Type 0
IsPut (PutPoint point row qual value) r = reading_of point ≡ r
IsPut (AppendPoint point row piece) r = reading_of point ≡ r
IsPut _ r = ⊥

-- the reading is of a cell of the base, with these names, or of a point that was put or appended
abbrev pub AcceptedBy : (Kind → ℕ → Option (List ℕ)) → History → Reading → Type 0
AcceptedBy names h r = HasReading names (base_of h) r ⊎ ((e : Entry) × Had h e × IsPut e.step r)

-- the same, with the names that ids have after the history
abbrev pub Accepted : History → Reading → Type 0
Accepted h r = AcceptedBy (name_of h) h r
