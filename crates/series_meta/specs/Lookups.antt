-- The series of a metric that pass filters, each with how many times it has, by the entries that their caller makes for them.
use Rattle.std.specs.Prelude.{◌≡◌, ℕ, ◌<◌, ◌≤◌, List, length, map, take, AllPairs, Contains, IsTrue, Some, Result, Ok, Err}
use Rattle.std.specs.Global.{Vec}
use Rattle.std.specs.declared.cmp.Ordering.TheVariants.{Less}
use Rattle.tsd_base.specs.declared.kinds.Kind.TheVariants.{Metric}
use Rattle.tsd_base.specs.declared.times.TheConstants.{LAST_TIME}
use Rattle.tsd_base.specs.TagList.{Pair, tags_cmp}
use Rattle.row_key.specs.declared.keys.RowKey.{RowKey}
use Rattle.row_key.specs.Key.{IsKey}
use Rattle.cell_model.specs.declared.events.Placed.{Placed}
use Rattle.cell_model.specs.History.{History, first, store_after}
use Rattle.cell_model.specs.IdRows.{AllResolved, id_of, name_of}
use Rattle.cell_model.specs.Layout.{base_time}
use Rattle.cell_model.specs.Readings.{Reading, Named, Accepted}
use Rattle.cell_model.specs.Seen.{Seen, InEach}
use Rattle.cell_model.specs.Deeds.{Made}
use Rattle.query_text.specs.declared.queries.Sub.{Sub}
use Rattle.tag_match.specs.Patterns.{passes}
use Rattle.metric_scan.specs.Parts.{AreQuerySteps, FirstUnknown, IsShort}
use Rattle.query_run.specs.AskedQueries.{names_in}
use Rattle.metric_scan.specs.declared.fault.AskFault.{AskFault}
use Rattle.series_meta.specs.MetaFaults.{IsOfSteps, meta_fault}
use Rattle.series_meta.specs.SeriesRows.{series_id}
use Rattle.series_meta.specs.declared.meta_answers.Line.{Line}
use Rattle.series_meta.specs.declared.meta_faults.MetaFault.{MetaFault}
use Rattle.series_meta.specs.declared.meta_faults.MetaFault.TheVariants.{Unknown, Duplicate, OutOfMemory, Stopped}

-- what is asked for: the series of a metric whose tags pass filters, and of these so many
pub record SeriesAsked : Type 0 where
  pub sub : Sub
  pub limit : ℕ

-- a reading of the series with these tags was accepted, at this time, and the series is asked for
pub record HadPoint (sub : Sub) (h : History) (tags : List Pair) (time : ℕ) : Type 0 where
  pub reading : Reading
  pub accepted : Accepted h reading
  pub metric_is : reading.metric ≡ sub.metric
  pub tags_are : reading.tags ≡ tags
  pub time_is : reading.time ≡ time
  pub passed : IsTrue (passes sub.filters tags)

-- the series with these tags is asked for, and had a point
abbrev pub HadSeries : Sub → History → List Pair → Type 0
HadSeries sub h tags = (time : ℕ) × HadPoint sub h tags time

-- the count is of times of the series: of each that had a point at the beginning, and of none that had no point at the end
pub record CountsTimes (sub : Sub) (begin end : ℕ) (h : History) (line : Line) : Type 0 where
  pub times : List ℕ
  pub rising : AllPairs (λ s t. s < t) times
  pub count_is : line.count ≡ length times
  pub had : (time : ℕ) → Contains times time → HadPoint sub (first end h) line.tags time
  pub all : (time : ℕ) → HadPoint sub (first begin h) line.tags time → Contains times time

-- the identifier is made of the ids of the series' names
pub record IsIdentified (sub : Sub) (h : History) (line : Line) : Type 0 where
  pub key : RowKey
  pub is_key : IsKey (store_after h).widths key
  pub metric_is : id_of h Metric sub.metric ≡ Some key.metric
  pub tags_are : Named (name_of h) key.pairs.items line.tags
  pub series_is : line.tsuid ≡ series_id (store_after h).widths key

-- the line tells of a series with one time or more
pub record TellsSeries (sub : Sub) (begin end : ℕ) (h : History) (line : Line) : Type 0 where
  pub some : 1 ≤ line.count
  pub times : CountsTimes sub begin end h line
  pub series : IsIdentified sub (first end h) line

-- the lines tell the first of these series, which rise by their tags: each that had a point at the beginning, and none that had no point at the end
pub record TellsFirst (q : SeriesAsked) (begin : ℕ) (lines : List Line) (end : ℕ) (h : History) : Type 0 where
  pub resolved : AllResolved (first end h) (names_in q.sub)
  pub series : List (List Pair)
  pub rising : AllPairs (λ s t. tags_cmp s t ≡ Less) series
  pub had : (tags : List Pair) → Contains series tags → HadSeries q.sub (first end h) tags
  pub all : (tags : List Pair) → HadSeries q.sub (first begin h) tags → Contains series tags
  pub first_are : map (λ line. line.tags) lines ≡ take q.limit series
  pub lines_tell : (line : Line) → Contains lines line → TellsSeries q.sub begin end h line

-- what the answer says, of the history up to its end; begin: its length when the request began
abbrev pub LookupIs : SeriesAsked → ℕ → List Placed → Result (Vec Line) MetaFault → ℕ → History → Type 0
LookupIs q begin own (Ok lines) end h = TellsFirst q begin lines.items end h
LookupIs q begin own (Err (Unknown kind name)) end h = FirstUnknown (names_in q.sub) (kind, name) own (first end h)
LookupIs q begin own (Err (Duplicate time a b)) end h = ⊥
LookupIs q begin own (Err OutOfMemory) end h = Unit {0}
LookupIs q begin own (Err Stopped) end h = Unit {0}

-- the entries are at most one for each name asked for, for each row of the metric, for each id of their tags, and one more
abbrev pub AreFewFor : Sub → List Placed → History → Type 0
AreFewFor sub own h = IsShort (names_in sub) sub.metric 0 (base_time LAST_TIME) own h

-- the caller made these entries and no other: reads and next rows, few of them
pub record LookupSays (q : SeriesAsked) (old : Seen) (result : Result (Vec Line) MetaFault) (new : Seen) : Type 0 where
  pub own : List Placed
  pub made : Made old own new
  pub steps : AreQuerySteps own
  pub few : InEach new (λ h. AreFewFor q.sub own (first new.length h))
  pub is : InEach new (LookupIs q old.length own result new.length)

-- the same by the faults of the steps
abbrev pub FindSays : SeriesAsked → Seen → Result (Vec Line) AskFault → Seen → Type 0
FindSays q old (Ok lines) new = LookupSays q old (Ok lines) new
FindSays q old (Err fault) new = IsOfSteps fault × LookupSays q old (Err (meta_fault fault)) new
