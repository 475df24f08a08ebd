-- The readings that the rows of a scan show, and what a set of readings covers.
use Rattle.std.specs.Prelude.{◌≡◌, ℕ, ◌≤◌, Bool, List, IsTrue, Contains, Option, Some}
use Rattle.tsd_base.specs.declared.kinds.Kind.{Kind}
use Rattle.tsd_base.specs.declared.kinds.Kind.TheVariants.{Metric}
use Rattle.row_key.specs.declared.widths.Widths.{Widths}
use Rattle.row_key.specs.declared.keys.RowKey.{RowKey}
use Rattle.row_key.specs.Key.{IsKey, key_bytes}
use Rattle.qual_codec.specs.declared.cells.Cell.{Cell}
use Rattle.cell_model.specs.declared.row.Found.{Found}
use Rattle.cell_model.specs.declared.events.Placed.{Placed}
use Rattle.cell_model.specs.declared.events.Reply.TheVariants.{Next}
use Rattle.cell_model.specs.History.{History, first, store_after}
use Rattle.cell_model.specs.IdRows.{id_of, name_of}
use Rattle.cell_model.specs.Layout.{base_time}
use Rattle.cell_model.specs.Readings.{Reading, Meets, OneValued, Named, CellReads, Accepted, point_row}
use Rattle.cell_model.specs.Deeds.{before_first}
use Rattle.row_scan.specs.Scans.{Wanting, HasCell}

-- one of the entries shows this row, by a next row
pub record ShowsRow (own : List Placed) (found : Found) : Type 0 where
  pub placed : Placed
  pub among : Contains own placed
  pub reply : placed.entry.reply ≡ Next (Some found)

-- a cell of the row has the reading, with these names
pub record RowReads (w : Widths) (names : Kind → ℕ → Option (List ℕ)) (found : Found) (r : Reading) : Type 0 where
  pub cell : Cell
  pub among : Contains found.cells cell
  pub reads : CellReads w names found.row.bytes cell.qual cell.value r

-- the readings of the rows that the entries show
abbrev pub ShowsReading : Widths → (Kind → ℕ → Option (List ℕ)) → List Placed → Reading → Type 0
ShowsReading w names own r = (found : Found) × ShowsRow own found × RowReads w names found r

-- those of the readings that are asked for
abbrev pub Chosen : (Reading → Bool) → (Reading → Type 0) → Reading → Type 0
Chosen asked A r = A r × IsTrue (asked r)

-- P is one-valued, lies within B, and has a reading of each series and time of A
pub record Covers (P A B : Reading → Type 0) : Type 0 where
  pub one : OneValued P
  pub within : (r : Reading) → P r → B r
  pub each : (r : Reading) → A r → (q : Reading) × P q × Meets r q

-- whether a reading is asked for depends on its series and time alone
abbrev pub BySeries : (Reading → Bool) → Type 0
BySeries asked = (a b : Reading) → Meets a b → asked a ≡ asked b

-- what is asked for has the metric of this id and a time of these hours
abbrev pub AsksWithin : (Reading → Bool) → History → ℕ → ℕ → ℕ → Type 0
AsksWithin asked h metric first_base last_base =
    (r : Reading) → IsTrue (asked r) → (id_of h Metric r.metric ≡ Some metric) × (first_base ≤ base_time r.time) × (base_time r.time ≤ last_base)

-- with these names the key is that of the reading's series, in its hour
pub record IsKeyOf (names : Kind → ℕ → Option (List ℕ)) (key : RowKey) (r : Reading) : Type 0 where
  pub metric_is : names Metric key.metric ≡ Some r.metric
  pub tags_are : Named names key.pairs.items r.tags
  pub hour_is : base_time r.time ≡ key.base

-- what is asked for is of wanted rows, of those that are there after the history
abbrev pub AsksOfWanted : Wanting → (Reading → Bool) → History → Type 0
AsksOfWanted wants asked h =
    (key : RowKey) (r : Reading) → IsKey (store_after h).widths key → HasCell (store_after h) (point_row (key_bytes (store_after h).widths key)) → IsKeyOf (name_of h) key r → IsTrue (asked r) → IsTrue (wants key)

-- no row that is shown has two values at one time that is asked for
abbrev pub NoConflict : Widths → (Kind → ℕ → Option (List ℕ)) → (Reading → Bool) → List Placed → Type 0
NoConflict w names asked own = (found : Found) → ShowsRow own found → OneValued (Chosen asked (RowReads w names found))

-- what these entries show of what is asked for covers what was accepted before the first of them, and lies within what was accepted at the end
abbrev pub OwnCovers : (Reading → Bool) → List Placed → ℕ → History → Type 0
OwnCovers asked own end h =
    Covers (Chosen asked (ShowsReading (store_after (first end h)).widths (name_of (first end h)) own)) (Chosen asked (Accepted (first (before_first own end) h))) (Chosen asked (Accepted (first end h)))
