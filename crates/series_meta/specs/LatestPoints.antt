-- The last point of a series within reach of a moment, by the entries that its caller makes for it.
use Rattle.std.specs.Prelude.{◌≡◌, ℕ, ℤ, ◌+◌, ◌-◌, ◌*◌, ◌≤◌, List, [], ◌∷◌, ◌++◌, length, Contains, Option, None, Some, Result, Ok, Err}
use Rattle.row_hours.specs.declared.hours.TheConstants.{HOUR_MILLIS}
use Rattle.tsd_base.specs.declared.kinds.Kind.TheVariants.{Metric}
use Rattle.tsd_base.specs.TagList.{Pair}
use Rattle.row_key.specs.declared.keys.RowKey.{RowKey}
use Rattle.row_key.specs.Key.{IsKey, key_bytes}
use Rattle.qual_codec.specs.declared.cells.Cell.{Cell}
use Rattle.qual_codec.specs.declared.cells.Dot.{Dot}
use Rattle.qual_codec.specs.Merge.{AreDots, first_conflict}
use Rattle.cell_model.specs.declared.events.Placed.{Placed}
use Rattle.cell_model.specs.declared.events.Step.TheVariants.{Read}
use Rattle.cell_model.specs.declared.events.Reply.TheVariants.{Shown}
use Rattle.cell_model.specs.History.{History, first, store_after}
use Rattle.cell_model.specs.IdRows.{NameOf, AllResolved, id_of, name_of}
use Rattle.cell_model.specs.Layout.{base_time}
use Rattle.cell_model.specs.Readings.{Reading, Named, Accepted, point_row}
use Rattle.cell_model.specs.Seen.{Seen, InEach}
use Rattle.cell_model.specs.Deeds.{Made, Did}
use Rattle.metric_scan.specs.Parts.{AreQuerySteps, FirstUnknown}
use Rattle.metric_scan.specs.declared.fault.AskFault.{AskFault}
use Rattle.series_meta.specs.MetaFaults.{IsOfSteps, meta_fault}
use Rattle.series_meta.specs.HourWalks.{LatestAt}
use Rattle.series_meta.specs.SeriesRows.{series_names, series_id}
use Rattle.series_meta.specs.declared.meta_answers.Last.{Last}
use Rattle.series_meta.specs.declared.meta_faults.MetaFault.{MetaFault}
use Rattle.series_meta.specs.declared.meta_faults.MetaFault.TheVariants.{Unknown, Duplicate, OutOfMemory, Stopped}

-- what is asked for: a series, a moment in milliseconds, and how many hours before the moment's hour
pub record Asking : Type 0 where
  pub metric : List ℕ
  pub tags : List Pair
  pub now : ℕ
  pub back : ℕ

-- the names of the series that is asked for
abbrev pub names_asked : Asking → List NameOf
names_asked q = series_names q.metric q.tags

-- the times from the start of the moment's hour, less those hours, or from 0 on, up to the moment
abbrev pub InReach : Asking → ℕ → Type 0
InReach q time = (base_time q.now * 1000 - q.back * HOUR_MILLIS ≤ time) × (time ≤ q.now)

-- a reading of the series in reach was accepted, at this time
pub record HadTime (q : Asking) (h : History) (time : ℕ) : Type 0 where
  pub reading : Reading
  pub accepted : Accepted h reading
  pub metric_is : reading.metric ≡ q.metric
  pub tags_are : reading.tags ≡ q.tags
  pub time_is : reading.time ≡ time
  pub within : InReach q time

-- the key of a row of the series, in some hour
pub record IsSeriesKey (h : History) (q : Asking) (key : RowKey) : Type 0 where
  pub is_key : IsKey (store_after h).widths key
  pub metric_is : id_of h Metric q.metric ≡ Some key.metric
  pub tags_are : Named (name_of h) key.pairs.items q.tags

-- The last of the entries read a row of the series. This is the latest time in reach that it showed, with these values there.
pub record StoppedAt (q : Asking) (h : History) (own : List Placed) (key : RowKey) (time : ℕ) (values : List ℤ) : Type 0 where
  pub is_key : IsSeriesKey h q key
  pub earlier : List Placed
  pub at : Placed
  pub own_is : own ≡ earlier ++ at ∷ []
  pub cells : List Cell
  pub did : Did at (Read (point_row (key_bytes (store_after h).widths key))) (Shown cells)
  pub dots : List Dot
  pub are_dots : AreDots cells dots
  pub latest : LatestAt dots key.base q.now time values
  pub within : InReach q time

-- the names are resolved, and of what was accepted at the beginning no time in reach is later than that at which the entries stopped
pub record StoppedLast (q : Asking) (begin : ℕ) (own : List Placed) (key : RowKey) (time : ℕ) (values : List ℤ) (end : ℕ) (h : History) : Type 0 where
  pub resolved : AllResolved (first end h) (names_asked q)
  pub stopped : StoppedAt q (first end h) own key time values
  pub last : (other : ℕ) → HadTime q (first begin h) other → other ≤ time

-- the point was accepted, none accepted at the beginning is later in reach, and its row has one value at its time
pub record IsLast (q : Asking) (begin : ℕ) (own : List Placed) (last : Last) (end : ℕ) (h : History) : Type 0 where
  pub key : RowKey
  pub values : List ℤ
  pub stopped : StoppedLast q begin own key last.time values end h
  pub one : first_conflict values ≡ None
  pub among : Contains values last.value
  pub accepted : Accepted (first end h) (record { metric = q.metric; tags = q.tags; time = last.time; value = last.value })
  pub series_is : last.tsuid ≡ series_id (store_after h).widths key

-- nothing was accepted in reach at the beginning
pub record IsNone (q : Asking) (begin end : ℕ) (h : History) : Type 0 where
  pub resolved : AllResolved (first end h) (names_asked q)
  pub none : (time : ℕ) → HadTime q (first begin h) time → ⊥

-- the row has two values at its latest time in reach
pub record HasTwo (q : Asking) (begin : ℕ) (own : List Placed) (time : ℕ) (a b : ℤ) (end : ℕ) (h : History) : Type 0 where
  pub key : RowKey
  pub values : List ℤ
  pub stopped : StoppedLast q begin own key time values end h
  pub two : first_conflict values ≡ Some (a, b)

-- what the answer says, of the history up to its end; begin: its length when the request began
abbrev pub LastIs : Asking → ℕ → List Placed → Result (Option Last) MetaFault → ℕ → History → Type 0
LastIs q begin own (Ok (Some last)) end h = IsLast q begin own last end h
LastIs q begin own (Ok None) end h = IsNone q begin end h
LastIs q begin own (Err (Unknown kind name)) end h = FirstUnknown (names_asked q) (kind, name) own (first end h)
LastIs q begin own (Err (Duplicate time a b)) end h = HasTwo q begin own time a b end h
LastIs q begin own (Err OutOfMemory) end h = Unit {0}
LastIs q begin own (Err Stopped) end h = Unit {0}

-- the caller made these entries and no other: reads and next rows, at most one for each name and one for each hour
pub record LastSays (q : Asking) (old : Seen) (result : Result (Option Last) MetaFault) (new : Seen) : Type 0 where
  pub own : List Placed
  pub made : Made old own new
  pub steps : AreQuerySteps own
  pub few : length own ≤ q.back + 2 + 2 * length q.tags
  pub is : InEach new (LastIs q old.length own result new.length)

-- the same by the faults of the steps
abbrev pub FoundSays : Asking → Seen → Result (Option Last) AskFault → Seen → Type 0
FoundSays q old (Ok last) new = LastSays q old (Ok last) new
FoundSays q old (Err fault) new = IsOfSteps fault × LastSays q old (Err (meta_fault fault)) new
