-- The rows of a metric in a range of times that pass filters, collected as the points of series by the ids of their tags.
use Rattle.std.specs.Prelude.{◌≡◌, ◌⊎◌, ℕ, ℤ, Bool, true, false, ◌&&◌, ◌+◌, ◌*◌, ◌<◌, ◌≤◌, IsTrue, List, [], ◌∷◌, ◌++◌, length, All, Contains, Option, None, Some, Result, Ok, Err}
use Rattle.row_key.specs.declared.keys.RowKey.{RowKey}
use Rattle.row_key.specs.declared.widths.Widths.{Widths}
use Rattle.qual_codec.specs.declared.cells.Cell.{Cell}
use Rattle.qual_codec.specs.declared.cells.Dot.{Dot}
use Rattle.cell_model.specs.declared.row.Found.{Found}
use Rattle.cell_model.specs.declared.events.Placed.{Placed}
use Rattle.cell_model.specs.declared.events.Reply.TheVariants.{Next}
use Rattle.cell_model.specs.History.{History}
use Rattle.cell_model.specs.IdRows.{name_of}
use Rattle.cell_model.specs.Seen.{Seen, InEach}
use Rattle.cell_model.specs.Deeds.{Made}
use Rattle.qual_codec.specs.CellDots.{Reads}
use Rattle.cell_model.specs.Layout.{base_time}
use Rattle.qual_codec.specs.Merge.{AreDots, values_at, first_conflict}
use Rattle.tsd_base.specs.declared.kinds.Down.{Down}
use Rattle.span_merge.specs.Spans.{Span, dots_of, added, KeepsSpans, KeptSpan}
use Rattle.metric_scan.specs.declared.fault.AskFault.{AskFault}
use Rattle.metric_scan.specs.declared.fault.AskFault.TheVariants.{Duplicate, OutOfMemory, Stopped}
use Rattle.query_run.specs.declared.collection.Collected.{Collected}
use Rattle.query_text.specs.declared.queries.Filter.{Filter}
use Rattle.metric_scan.specs.declared.id_filter.IdFilter.{IdFilter}
use Rattle.metric_scan.specs.IdFilters.{passes}
use Rattle.metric_scan.specs.declared.metric_rows.MetricRows.{MetricRows}
use Rattle.query_run.specs.declared.value_judges.ValueJudge.{ValueJudge}
use Rattle.query_run.specs.ValueJudges.{HaveJudged, HaveValues, filters_of, suits}
use Rattle.metric_scan.specs.RowNames.{IdOf, Names, AreReads, known}
use Rattle.query_run.specs.RowDots.{HasDots, Conflicts, IsIn, dot_at}
use Rattle.metric_scan.specs.Walks.{Picks, KeyOf, Counted, ShowsBelow, RowRange, WalkedAll, names_of}

-- ---- one row

-- the points that the series of the key has are from before its hour
abbrev pub StandsBehind : List Span → RowKey → Type 0
StandsBehind spans key = All (λ d. d.0 < key.base * 1000) (dots_of spans key.pairs.items)

-- points are added to a series where there are any
abbrev pub Adds : List Span → List (ℕ × ℕ) → List (ℕ × ℤ) → List Span → Type 0
Adds spans pairs dots more = ((dots ≡ []) × (more ≡ spans)) ⊎ ((1 ≤ length dots) × (more ≡ added spans pairs dots))

-- points were added to a series, where there are any, of which what is kept is of these series
pub record AddsKept (how : Option Down) (spans : List Span) (pairs : List (ℕ × ℕ)) (dots : List (ℕ × ℤ)) (kept : List KeptSpan) : Type 0 where
  pub more : List Span
  pub adds : Adds spans pairs dots more
  pub keeps : KeepsSpans how kept more

-- the points of the row of a key may be added to what is kept
pub record MayTake (how : Option Down) (kept : List KeptSpan) (key : RowKey) : Type 0 where
  pub spans : List Span
  pub keeps : KeepsSpans how kept spans
  pub behind : StandsBehind spans key

-- the points of the row's cells in the range were added
pub record RowTaken (how : Option Down) (key : RowKey) (cells : List Cell) (start end : ℕ) (spans : List Span) (kept : List KeptSpan) : Type 0 where
  pub dots : List (ℕ × ℤ)
  pub has : HasDots cells key.base start end dots
  pub added : AddsKept how spans key.pairs.items dots kept

-- of what was kept before these are the series
abbrev pub TakesRow : Option Down → RowKey → List Cell → ℕ → ℕ → List Span → Result (Unit {0}) AskFault → List KeptSpan → Type 0
TakesRow how key cells start end spans (Ok x) kept = RowTaken how key cells start end spans kept
TakesRow how key cells start end spans (Err (Duplicate time a b)) kept = Conflicts cells key.base start end time a b
TakesRow how key cells start end spans (Err OutOfMemory) kept = Unit {0}
TakesRow how key cells start end spans (Err fault) kept = ⊥

-- so it is where the row is asked for; else nothing changed
abbrev pub TakesIf : Bool → Option Down → RowKey → List Cell → ℕ → ℕ → List Span → Result (Unit {0}) AskFault → List KeptSpan → List KeptSpan → Type 0
TakesIf true how key cells start end spans result old kept = TakesRow how key cells start end spans result kept
TakesIf false how key cells start end spans (Ok x) old kept = kept ≡ old
TakesIf false how key cells start end spans (Err fault) old kept = ⊥

-- the values of a picked row may be judged, and its points added
pub record CanTake (rows : MetricRows) (judges : List ValueJudge) (how : Option Down) (kept : List KeptSpan) (key : RowKey) (cells : List Cell) (start end : ℕ) : Type 0 where
  pub as_many : length judges ≡ length rows.filters.items
  pub named : HaveValues (names_of rows) key.pairs.items
  pub reads : All (λ c. Reads c.qual c.value) cells
  pub from_on : base_time start ≤ key.base
  pub up_to : key.base ≤ base_time end
  pub behind : MayTake how kept key

-- the values of a picked row were judged, and its points added where it is asked for
pub record PickedTaken (rows : MetricRows) (before : List ValueJudge) (how : Option Down) (key : RowKey) (cells : List Cell) (start end : ℕ) (result : Result (Unit {0}) AskFault) (after : List ValueJudge) (old kept : List KeptSpan) : Type 0 where
  pub asked : Bool
  pub judged : HaveJudged (names_of rows) before after asked (λ all. suits all (filters_of before) rows.filters.items key.pairs.items)
  pub takes : (spans : List Span) → KeepsSpans how old spans → StandsBehind spans key → TakesIf asked how key cells start end spans result old kept

abbrev pub TakesPicked : MetricRows → List ValueJudge → Option Down → RowKey → List Cell → ℕ → ℕ → Result (Unit {0}) AskFault → List ValueJudge → List KeptSpan → List KeptSpan → Type 0
TakesPicked rows before how key cells start end (Err OutOfMemory) after old kept = Unit {0}
TakesPicked rows before how key cells start end result after old kept = PickedTaken rows before how key cells start end result after old kept

-- the row has two values at this time of the range, and none earlier
pub record RowConflicts (picks : Picks) (widths : Widths) (id start end : ℕ) (f : Found) (time : ℕ) (a b : ℤ) : Type 0 where
  pub key : RowKey
  pub of : KeyOf widths id start end f key
  pub picked : IsTrue (picks key.pairs.items)
  pub conflict : Conflicts f.cells key.base start end time a b

-- at no time of the range the cells have two values; their hour begins at this second
pub record AreConflictFree (start end base : ℕ) (cells : List Cell) : Type 0 where
  pub all : List Dot
  pub are : AreDots cells all
  pub one : (offset : ℕ) → IsIn start end (base * 1000 + offset) → first_conflict (values_at offset all) ≡ None

-- so it is of the row's cells, where it is asked for
pub record RowIsConflictFree (picks : Picks) (widths : Widths) (id start end : ℕ) (f : Found) : Type 0 where
  pub key : RowKey
  pub of : KeyOf widths id start end f key
  pub conflict_free : IsTrue (picks key.pairs.items) → AreConflictFree start end key.base f.cells

-- the cells are conflict_free, and their points in the range are those of the series of these pairs
pub record AreIn (start end base : ℕ) (cells : List Cell) (pairs : List (ℕ × ℕ)) (spans : List Span) : Type 0 where
  pub conflict_free : AreConflictFree start end base cells
  pub there : (x : Dot) → Contains conflict_free.all x → IsIn start end (base * 1000 + x.item.offset) → Contains (dots_of spans pairs) (dot_at base x)

-- so it is of the row's, where it is asked for
pub record RowIsIn (picks : Picks) (widths : Widths) (id start end : ℕ) (spans : List Span) (f : Found) : Type 0 where
  pub key : RowKey
  pub of : KeyOf widths id start end f key
  pub is_in : IsTrue (picks key.pairs.items) → AreIn start end key.base f.cells key.pairs.items spans

-- the point of the series is one of a row that was found and is asked for
pub record DotIsFrom (picks : Picks) (widths : Widths) (id start end : ℕ) (founds : List Found) (pairs : List (ℕ × ℕ)) (d : ℕ × ℤ) : Type 0 where
  pub found : Found
  pub among : Contains founds found
  pub key : RowKey
  pub of : KeyOf widths id start end found key
  pub picked : IsTrue (picks key.pairs.items)
  pub pairs_are : key.pairs.items ≡ pairs
  pub all : List Dot
  pub are : AreDots found.cells all
  pub dot : Dot
  pub there : Contains all dot
  pub dot_is : d ≡ dot_at key.base dot
  pub within : IsIn start end d.0

-- ---- all of them

-- the rows that are asked for in a history: those that pass the filters by their ids, and whose values pass the tests of text by their names
abbrev pub picks_in : List IdFilter → List Filter → History → Picks
picks_in list filters g pairs = passes list pairs && suits (name_of g) filters list pairs

-- the series are those of the rows that were found and are asked for, each with their points in the range, one or more
pub record Gathered (picks : Picks) (widths : Widths) (id start end : ℕ) (founds : List Found) (spans : List Span) : Type 0 where
  pub rows : (f : Found) → Contains founds f → RowIsIn picks widths id start end spans f
  pub from : (s : Span) (d : ℕ × ℤ) → Contains spans s → Contains s.1 d → DotIsFrom picks widths id start end founds s.0 d
  pub some : (s : Span) → Contains spans s → 1 ≤ length s.1

-- all rows were gone through, and these series were collected, in each lawful history that fits what was seen
pub record HasCollected (r : RowRange) (list : List IdFilter) (filters : List Filter) (spans : List Span) (names : Names) (new : Seen) : Type 0 where
  pub own : List Placed
  pub founds : List Found
  pub all : WalkedAll r own founds (passes list) names new
  pub content : InEach new (λ g. Gathered (picks_in list filters g) r.begun.base.widths r.id r.start r.end founds spans)

-- an entry shows the first row with a conflict, which is the row's first one; those behind it are reads of names
pub record FoundConflict (picks : Picks) (widths : Widths) (id start end : ℕ) (own : List Placed) (time : ℕ) (a b : ℤ) : Type 0 where
  pub earlier : List Placed
  pub at : Placed
  pub later : List Placed
  pub cut : own ≡ earlier ++ at ∷ later
  pub conflict_free : (p : Placed) (f : Found) → Contains earlier p → p.entry.reply ≡ Next (Some f) → RowIsConflictFree picks widths id start end f
  pub found : Found
  pub reply : at.entry.reply ≡ Next (Some found)
  pub reads : AreReads later
  pub passed : ShowsBelow picks widths id start end own earlier found.row
  pub conflict : RowConflicts picks widths id start end found time a b

abbrev pub ConflictOf : Picks → Widths → ℕ → ℕ → ℕ → List Placed → AskFault → Type 0
ConflictOf picks widths id start end own (Duplicate time a b) = FoundConflict picks widths id start end own time a b
ConflictOf picks widths id start end own OutOfMemory = Unit {0}
ConflictOf picks widths id start end own Stopped = Unit {0}
ConflictOf picks widths id start end own fault = ⊥

-- the collecting was broken off
pub record WasCut (r : RowRange) (list : List IdFilter) (filters : List Filter) (fault : AskFault) (new : Seen) : Type 0 where
  pub own : List Placed
  pub founds : List Found
  pub ids : List IdOf
  pub made : Made r.begun own new
  pub counted : Counted 1 r.begun.base.widths r.id r.start r.end own founds ids
  pub cause : InEach new (λ g. ConflictOf (picks_in list filters g) r.begun.base.widths r.id r.start r.end own fault)

-- what is kept is of the series that were collected
pub record KeepsCollected (r : RowRange) (list : List IdFilter) (filters : List Filter) (how : Option Down) (c : Collected) (new : Seen) : Type 0 where
  pub spans : List Span
  pub keeps : KeepsSpans how c.spans spans
  pub collected : HasCollected r list filters spans (known c.names) new

abbrev pub CollectSays : RowRange → List IdFilter → List Filter → Option Down → Result Collected AskFault → Seen → Type 0
CollectSays r list filters how (Ok c) new = KeepsCollected r list filters how c new
CollectSays r list filters how (Err fault) new = WasCut r list filters fault new

-- so it is of what the rows left, and of what was kept
abbrev pub LeftSays : RowRange → List IdFilter → List Filter → Option Down → Result (Unit {0}) AskFault → MetricRows → List KeptSpan → Seen → Type 0
LeftSays r list filters how (Ok x) rows kept new = KeepsCollected r list filters how (record { spans = kept; names = rows.names }) new
LeftSays r list filters how (Err fault) rows kept new = WasCut r list filters fault new
