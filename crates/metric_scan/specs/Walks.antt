-- Going through the rows of a metric in a range of times, of which those are picked whose pairs of ids are asked for.
use Rattle.std.specs.Prelude.{◌≡◌, ◌≢◌, ℕ, Bool, ◌+◌, ◌<◌, ◌≤◌, IsTrue, List, [], length, All, AllPairs, Contains, Some}
use Rattle.std.specs.declared.cmp.Ordering.TheVariants.{Less}
use Rattle.tsd_base.specs.declared.kinds.Kind.TheVariants.{Metric}
use Rattle.row_key.specs.declared.tables.Table.TheVariants.{Points}
use Rattle.row_key.specs.declared.widths.Widths.{Widths}
use Rattle.row_key.specs.declared.keys.RowKey.{RowKey}
use Rattle.row_key.specs.Key.{IsKey, key_bytes}
use Rattle.qual_codec.specs.CellDots.{Reads}
use Rattle.cell_model.specs.declared.row.Found.{Found}
use Rattle.cell_model.specs.declared.row.Row.{Row}
use Rattle.cell_model.specs.declared.events.Placed.{Placed}
use Rattle.cell_model.specs.declared.events.Reply.TheVariants.{Next}
use Rattle.list_lemmas.specs.BytesOrder.{bytes_cmp}
use Rattle.cell_model.specs.Store.{is_between}
use Rattle.cell_model.specs.History.{History, first, store_after, entry_at}
use Rattle.cell_model.specs.Lawful.{IsLawful}
use Rattle.cell_model.specs.Layout.{base_time}
use Rattle.cell_model.specs.Readings.{point_row}
use Rattle.cell_model.specs.Seen.{Seen}
use Rattle.cell_model.specs.Deeds.{Made}
use Rattle.query_text.specs.declared.queries.Sub.{Sub}
use Rattle.uid_table.specs.Shown.{HasShown}
use Rattle.row_scan.specs.Scans.{Left, IsNext, IsRowOf, IsStart, HasCell, Wanting, IsWanted, Skips, Scanned, Scanning, left_at}
use Rattle.row_scan.specs.RowReadings.{ShowsRow}
use Rattle.metric_scan.specs.declared.metric_rows.MetricRows.{MetricRows}
use Rattle.metric_scan.specs.IdFilters.{AreIdFilters, passes}
use Rattle.metric_scan.specs.Parts.{AreQuerySteps}
use Rattle.metric_scan.specs.RowNames.{IdOf, Names, HasName, KnowsPair, AllNamed, ids_of, known}

-- the key is that of the row, which is one of the metric's in the hours from start's to end's
pub record KeyOf (widths : Widths) (id start end : ℕ) (f : Found) (key : RowKey) : Type 0 where
  pub is_key : IsKey widths key
  pub row_is : f.row ≡ point_row (key_bytes widths key)
  pub metric_is : key.metric ≡ id
  pub from_on : base_time start ≤ key.base
  pub up_to : key.base ≤ base_time end

-- whether a row with these pairs of ids is asked for
abbrev pub Picks : Type 0
Picks = List (ℕ × ℕ) → Bool

-- the rows that are asked for, by their keys
abbrev pub picked_by : Picks → Wanting
picked_by picks key = picks key.pairs.items

-- such a row, whose cells read, and whose ids are known to be those of names
pub record FoundRow (s : Seen) (widths : Widths) (id start end : ℕ) (f : Found) : Type 0 where
  pub key : RowKey
  pub of : KeyOf widths id start end f key
  pub reads : All (λ c. Reads c.qual c.value) f.cells
  pub knows : (p : ℕ × ℕ) → Contains key.pairs.items p → KnowsPair s p

-- the id is one of the row's tags
abbrev pub HasId : Widths → ℕ → ℕ → ℕ → Found → IdOf → Type 0
HasId widths id start end f i = (key : RowKey) × KeyOf widths id start end f key × Contains (ids_of key.pairs.items) i

-- The entries found these rows, which rise, and read the names of these ids, each at most once; spare: how many more entries there may be.
pub record Counted (spare : ℕ) (widths : Widths) (id start end : ℕ) (own : List Placed) (founds : List Found) (ids : List IdOf) : Type 0 where
  pub steps : AreQuerySteps own
  pub shows : (p : Placed) (f : Found) → Contains own p → p.entry.reply ≡ Next (Some f) → Contains founds f
  pub by : (f : Found) → Contains founds f → (p : Placed) × (left : Left) × Contains own p × IsNext left (Some f) p
  pub keys : (f : Found) → Contains founds f → (key : RowKey) × KeyOf widths id start end f key
  pub rising : AllPairs (λ (f g : Found). bytes_cmp f.row.bytes g.row.bytes ≡ Less) founds
  pub count : length own ≤ length founds + length ids + spare
  pub once : AllPairs (λ i j. i ≢ j) ids
  pub from : (i : IdOf) → Contains ids i → (f : Found) × Contains founds f × HasId widths id start end f i

-- where the row is picked, its ids have names
pub record RowIsNamed (picks : Picks) (widths : Widths) (id start end : ℕ) (names : Names) (f : Found) : Type 0 where
  pub key : RowKey
  pub of : KeyOf widths id start end f key
  pub named : IsTrue (picks key.pairs.items) → (i : IdOf) → Contains (ids_of key.pairs.items) i → HasName names i

-- of what is left of the scan only rows of the metric in these hours are keys
abbrev pub OnlyRows : Widths → ℕ → ℕ → ℕ → Left → Type 0
OnlyRows widths id start end left =
    (key : RowKey) → IsKey widths key → IsTrue (is_between Points left.from left.to (point_row (key_bytes widths key))) → IsRowOf widths id (base_time start) (base_time end) (point_row (key_bytes widths key))

-- the entries stand in the history, behind this length
abbrev pub StandAfter : History → ℕ → List Placed → Type 0
StandAfter h length own = (p : Placed) → Contains own p → (entry_at h p.place ≡ Some p.entry) × (length < p.place)

-- each row of the scan that is asked for, was there before the entries, and is below what is left, was found
pub record FoundBelow (picks : Picks) (begin left : Left) (own : List Placed) (founds : List Found) : Type 0 where
  pub widths_are : left.widths ≡ begin.widths
  pub to : left.to ≡ begin.to
  pub each : (h : History) (length : ℕ) → IsLawful h → StandAfter h length own → (row : Row) → IsTrue (is_between Points begin.from begin.to row) → IsWanted begin.widths (picked_by picks) row → HasCell (store_after (first length h)) row → bytes_cmp row.bytes left.from ≡ Less
      → (f : Found) × Contains founds f × (f.row ≡ row)

-- the scan goes on where it was, or further on where no row in between is asked for
abbrev pub GoesOn : Picks → Left → Left → Type 0
GoesOn picks left now = (from : List ℕ) × Skips (picked_by picks) left from × (now ≡ left_at left from)

-- the earlier entries show each row of the metric in these hours that is asked for, was there before all of the entries, and is below this one
abbrev pub ShowsBelow : Picks → Widths → ℕ → ℕ → ℕ → List Placed → List Placed → Row → Type 0
ShowsBelow picks widths id start end own earlier below =
    (h : History) (length : ℕ) → IsLawful h → StandAfter h length own → (row : Row) → IsRowOf widths id (base_time start) (base_time end) row → IsWanted widths (picked_by picks) row → HasCell (store_after (first length h)) row → bytes_cmp row.bytes below.bytes ≡ Less
    → (f : Found) × ShowsRow earlier f × (f.row ≡ row)

-- which rows are gone through: those of this metric, in the hours of the times from start to end; and what was seen when it began
pub record RowRange : Type 0 where
  pub id : ℕ
  pub start : ℕ
  pub end : ℕ
  pub begun : Seen

abbrev pub row_range : ℕ → ℕ → ℕ → Seen → RowRange
row_range id start end begun = record { id = id; start = start; end = end; begun = begun }

-- by these entries all rows up to what is left were gone through, and these were found; those that are picked have names
pub record Walked (r : RowRange) (own : List Placed) (founds : List Found) (picks : Picks) (left : Left) (names : Names) (now : Seen) : Type 0 where
  pub begin : Left
  pub ids : List IdOf
  pub starts : IsStart r.begun.base.widths r.id (base_time r.start) (base_time r.end) begin
  pub made : Made r.begun own now
  pub counted : Counted 0 r.begun.base.widths r.id r.start r.end own founds ids
  pub had : (i : IdOf) → Contains ids i → HasName names i
  pub scanning : Scanning (picked_by picks) begin own founds left
  pub only : OnlyRows r.begun.base.widths r.id r.start r.end left
  pub passed : (f : Found) → Contains founds f → bytes_cmp f.row.bytes left.from ≡ Less
  pub below : FoundBelow picks begin left own founds
  pub named : (f : Found) → Contains founds f → RowIsNamed picks r.begun.base.widths r.id r.start r.end names f
  pub shown : AllNamed now names

-- all rows were gone through
pub record WalkedAll (r : RowRange) (own : List Placed) (founds : List Found) (picks : Picks) (names : Names) (now : Seen) : Type 0 where
  pub begin : Left
  pub ids : List IdOf
  pub starts : IsStart r.begun.base.widths r.id (base_time r.start) (base_time r.end) begin
  pub made : Made r.begun own now
  pub counted : Counted 1 r.begun.base.widths r.id r.start r.end own founds ids
  pub whole : Scanned (picked_by picks) begin own founds
  pub named : (f : Found) → Contains founds f → RowIsNamed picks r.begun.base.widths r.id r.start r.end names f
  pub shown : AllNamed now names

-- it was broken off, after these entries found these rows
pub record WalkCut (r : RowRange) (own : List Placed) (founds : List Found) (now : Seen) : Type 0 where
  pub ids : List IdOf
  pub made : Made r.begun own now
  pub counted : Counted 1 r.begun.base.widths r.id r.start r.end own founds ids

-- ---- the rows as the code keeps them

-- which rows are picked, and the names that were asked for of ids
abbrev pub picks_of : MetricRows → Picks
picks_of rows = passes rows.filters.items

abbrev pub names_of : MetricRows → Names
names_of rows = known rows.names

-- so far they were gone through
abbrev pub HasWalked : RowRange → List Placed → List Found → MetricRows → Seen → Type 0
HasWalked r own founds rows now = Walked r own founds (picks_of rows) rows.scan (names_of rows) now

abbrev pub IsUnderWay : MetricRows → Seen → Type 0
IsUnderWay rows now = (r : RowRange) × (own : List Placed) × (founds : List Found) × HasWalked r own founds rows now

-- the rows are those of a sub query's metric, in the hours of these times, of which those are picked that pass its filters; all of them are left
pub record AreRowsOf (sub : Sub) (start end : ℕ) (s : Seen) (rows : MetricRows) : Type 0 where
  pub id : ℕ
  pub metric : HasShown s Metric sub.metric id
  pub by : AreIdFilters s sub.filters rows.filters.items
  pub walked : HasWalked (row_range id start end s) [] [] rows s
