-- At how many times the series of the rows of a metric have points, by the ids of their tags.
use Rattle.std.specs.Prelude.{◌≡◌, ℕ, ◌+◌, ◌*◌, ◌<◌, ◌≤◌, IsTrue, List, length, AllPairs, Contains, Option, None, Some, Result, Ok, Err}
use Rattle.std.specs.BTreeMap.{get}
use Rattle.row_key.specs.declared.widths.Widths.{Widths}
use Rattle.row_key.specs.declared.keys.RowKey.{RowKey}
use Rattle.qual_codec.specs.declared.cells.Cell.{Cell}
use Rattle.qual_codec.specs.declared.cells.Dot.{Dot}
use Rattle.qual_codec.specs.Merge.{AreDots}
use Rattle.cell_model.specs.declared.row.Found.{Found}
use Rattle.cell_model.specs.declared.events.Placed.{Placed}
use Rattle.cell_model.specs.Seen.{Seen}
use Rattle.span_merge.specs.Spans.{pairs_cmp}
use Rattle.metric_scan.specs.declared.fault.AskFault.{AskFault}
use Rattle.metric_scan.specs.declared.fault.AskFault.TheVariants as ask
use Rattle.metric_scan.specs.RowNames.{Names}
use Rattle.metric_scan.specs.RowTurns.{TurnCut}
use Rattle.metric_scan.specs.Walks.{Picks, KeyOf, RowRange, WalkedAll}
use Rattle.series_meta.specs.declared.series_counts.SeriesCounts.{SeriesCounts}

-- the times of each series, by its ids
abbrev pub Times : Type 0
Times = List (ℕ × ℕ) → List ℕ

-- the time of the series is that of a data point of a row that was found and is picked
pub record TimeIsFrom (picks : Picks) (widths : Widths) (id start end : ℕ) (founds : List Found) (pairs : List (ℕ × ℕ)) (time : ℕ) : Type 0 where
  pub found : Found
  pub among : Contains founds found
  pub key : RowKey
  pub of : KeyOf widths id start end found key
  pub picked : IsTrue (picks key.pairs.items)
  pub pairs_are : key.pairs.items ≡ pairs
  pub dots : List Dot
  pub are : AreDots found.cells dots
  pub dot : Dot
  pub there : Contains dots dot
  pub time_is : time ≡ key.base * 1000 + dot.item.offset

-- the times of the cells' data points are among these; their hour begins at this second
pub record AreTold (base : ℕ) (cells : List Cell) (times : List ℕ) : Type 0 where
  pub dots : List Dot
  pub are : AreDots cells dots
  pub told : (d : Dot) → Contains dots d → Contains times (base * 1000 + d.item.offset)

-- where the row is picked, its times are among those of its series
pub record RowIsTold (picks : Picks) (widths : Widths) (id start end : ℕ) (times : Times) (f : Found) : Type 0 where
  pub key : RowKey
  pub of : KeyOf widths id start end f key
  pub told : IsTrue (picks key.pairs.items) → AreTold key.base f.cells (times key.pairs.items)

-- the times of each series rise; they are those of the rows that were found and are picked
pub record AreTimes (picks : Picks) (widths : Widths) (id start end : ℕ) (founds : List Found) (times : Times) : Type 0 where
  pub rising : (pairs : List (ℕ × ℕ)) → AllPairs (λ s t. s < t) (times pairs)
  pub from : (pairs : List (ℕ × ℕ)) (time : ℕ) → Contains (times pairs) time → TimeIsFrom picks widths id start end founds pairs time
  pub rows : (f : Found) → Contains founds f → RowIsTold picks widths id start end times f

-- so many times are counted, one or more, or none where there are none
abbrev pub IsCount : List ℕ → Option ℕ → Type 0
IsCount times (Some count) = (count ≡ length times) × (1 ≤ count)
IsCount times None = length times ≡ 0

-- the times of each series are counted, under the metric's id
pub record HasCounts (id : ℕ) (times : Times) (series : SeriesCounts) : Type 0 where
  pub each : (pairs : List (ℕ × ℕ)) → IsCount (times pairs) (get pairs_cmp series.counts pairs)
  pub metric : (pairs : List (ℕ × ℕ)) → 1 ≤ length (times pairs) → series.metric ≡ id

-- all rows were gone through, and the times of their series are counted
pub record RowsCounted (r : RowRange) (picks : Picks) (names : Names) (series : SeriesCounts) (new : Seen) : Type 0 where
  pub own : List Placed
  pub founds : List Found
  pub all : WalkedAll r own founds picks names new
  pub times : Times
  pub are : AreTimes picks r.begun.base.widths r.id r.start r.end founds times
  pub counts : HasCounts r.id times series

-- want of memory and a stop alone break the counting off
abbrev pub IsBreak : AskFault → Type 0
IsBreak ask.OutOfMemory = Unit {0}
IsBreak ask.Stopped = Unit {0}
IsBreak fault = ⊥

abbrev pub CountSays : RowRange → Picks → Result SeriesCounts AskFault → Names → Seen → Type 0
CountSays r picks (Ok series) names new = RowsCounted r picks names series new
CountSays r picks (Err fault) names new = IsBreak fault × TurnCut r new
