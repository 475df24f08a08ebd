-- The part of a query's entries that was made for one sub query, and what it shows.
use Rattle.std.specs.Prelude.{◌≡◌, ◌↔◌, ℕ, ℤ, ◌+◌, ◌*◌, ◌≤◌, Bool, IsTrue, List, ◌∷◌, ◌++◌, length, Contains, Option, Some, None}
use Rattle.std.specs.List.{flat_map}
use Rattle.std.specs.declared.cmp.Ordering.TheVariants.{Less}
use Rattle.tsd_base.specs.declared.kinds.Kind.{Kind}
use Rattle.tsd_base.specs.declared.kinds.Kind.TheVariants.{Metric, TagKey, TagValue}
use Rattle.row_key.specs.declared.widths.Widths.{Widths}
use Rattle.row_key.specs.declared.keys.RowKey.{RowKey}
use Rattle.row_key.specs.Key.{IsKey, key_bytes}
use Rattle.qual_codec.specs.declared.cells.Dot.{Dot}
use Rattle.cell_model.specs.declared.row.Row.{Row}
use Rattle.cell_model.specs.declared.row.Found.{Found}
use Rattle.cell_model.specs.declared.events.Placed.{Placed}
use Rattle.cell_model.specs.declared.events.Step.{Step}
use Rattle.cell_model.specs.declared.events.Step.TheVariants.{Read, NextRow}
use Rattle.cell_model.specs.declared.events.Reply.TheVariants.{Next}
use Rattle.list_lemmas.specs.BytesOrder.{bytes_cmp}
use Rattle.cell_model.specs.Store.{Store, value_at}
use Rattle.cell_model.specs.History.{History, first, store_after}
pub use Rattle.cell_model.specs.IdRows.{NameOf, IsResolved, AllResolved}
use Rattle.cell_model.specs.IdRows.{id_of, name_of}
use Rattle.cell_model.specs.Readings.{Reading, Accepted, CellReads, point_row}
use Rattle.cell_model.specs.Deeds.{before_first}
use Rattle.uid_table.specs.IdSteps.{DidLook}
use Rattle.qual_codec.specs.Merge.{AreDots, values_at, first_conflict}
use Rattle.row_scan.specs.Scans.{IsRowOf, HasCell}
use Rattle.row_scan.specs.RowReadings.{RowReads, ShowsRow, ShowsReading, Chosen, Covers, NoConflict}

-- the entries made for one sub query, and the readings that were chosen of the cells that they show
pub record Part : Type 0 where
  pub own : List Placed
  pub shown : List Reading

-- the entries of parts, one part's after the other's
abbrev pub all_own : List Part → List Placed
all_own parts = flat_map (λ (p : Part). p.own) parts

-- a step that a query makes
abbrev pub IsQueryStep : Step → Type 0
IsQueryStep (Read row) = Unit {0}
IsQueryStep (NextRow table from to) = Unit {0}
IsQueryStep _ = ⊥

abbrev pub AreQuerySteps : List Placed → Type 0
AreQuerySteps list = (p : Placed) → Contains list p → IsQueryStep p.entry.step

-- What stands of a part that was read to its end: its names are resolved, no row that it shows has a conflict, and the readings chosen of what
-- it shows cover what was accepted before its first entry, and lie within what is accepted at the end.
pub record PartStands (wanted : Reading → Bool) (names : List NameOf) (part : Part) (end : ℕ) (h : History) : Type 0 where
  pub resolved : AllResolved (first end h) names
  pub shown : (r : Reading) → Contains part.shown r ↔ Chosen wanted (ShowsReading (store_after (first end h)).widths (name_of (first end h)) part.own) r
  pub conflict_free : NoConflict (store_after (first end h)).widths (name_of (first end h)) wanted part.own
  pub covers : Covers (Contains part.shown) (Chosen wanted (Accepted (first (before_first part.own end) h))) (Chosen wanted (Accepted (first end h)))

-- one of the entries is a read that found no cell of the name
abbrev pub FoundNone : List Placed → NameOf → Type 0
FoundNone own n = (d : Placed) × Contains own d × DidLook d n.0 n.1 None

-- those before the one of the names that no cell was found of are resolved
pub record FirstUnknown (names : List NameOf) (n : NameOf) (own : List Placed) (h : History) : Type 0 where
  pub before : List NameOf
  pub after : List NameOf
  pub cut : names ≡ before ++ n ∷ after
  pub resolved : AllResolved h before
  pub none : FoundNone own n

-- at a time that is asked for the cells of a point row have two values: a is the first, b the first behind it that differs, cell by cell and within the column in its order
pub record HasConflict (widths : Widths) (names : Kind → ℕ → Option (List ℕ)) (wanted : Reading → Bool) (found : Found) (time : ℕ) (a b : ℤ) : Type 0 where
  pub key : RowKey
  pub is_key : IsKey widths key
  pub row_is : found.row ≡ point_row (key_bytes widths key)
  pub offset : ℕ
  pub time_is : time ≡ key.base * 1000 + offset
  pub dots : List Dot
  pub are_dots : AreDots found.cells dots
  pub values : first_conflict (values_at offset dots) ≡ Some (a, b)
  pub reading : Reading
  pub reads : RowReads widths names found reading
  pub at_time : reading.time ≡ time
  pub asked : IsTrue (wanted reading)

-- each row below this one that had a wanted reading in the store is shown
abbrev pub ShowsRowsBelow : Store → Widths → (Kind → ℕ → Option (List ℕ)) → (Reading → Bool) → List Placed → Row → Type 0
ShowsRowsBelow began widths names wanted own below =
    (row qual value : List ℕ) (r : Reading) → value_at began (point_row row) qual ≡ Some value → CellReads widths names row qual value r → IsTrue (wanted r) → bytes_cmp row below.bytes ≡ Less
    → (found : Found) × ShowsRow own found × (found.row ≡ point_row row)

-- The first row shown that has a conflict has its least one at this time. No row was passed over before it, of those that were there when the part began.
pub record FirstConflict (began : Store) (widths : Widths) (names : Kind → ℕ → Option (List ℕ)) (wanted : Reading → Bool) (own : List Placed) (time : ℕ) (a b : ℤ) : Type 0 where
  pub earlier : List Placed
  pub at : Placed
  pub later : List Placed
  pub cut : own ≡ earlier ++ at ∷ later
  pub conflict_free : NoConflict widths names wanted earlier
  pub found : Found
  pub reply : at.entry.reply ≡ Next (Some found)
  pub passed : ShowsRowsBelow began widths names wanted earlier found.row
  pub conflict : HasConflict widths names wanted found time a b
  pub least : (t : ℕ) (c d : ℤ) → HasConflict widths names wanted found t c d → time ≤ t

-- the list has each row of the metric in these hours that is there after the history
abbrev pub HoldsRows : List ℕ → ℕ → ℕ → History → List Row → Type 0
HoldsRows metric first_base last_base h rows =
    (id : ℕ) (row : Row) → id_of h Metric metric ≡ Some id → IsRowOf (store_after h).widths id first_base last_base row → HasCell (store_after h) row → Contains rows row

-- the list has each id of the tags of these rows
abbrev pub HoldsIds : Widths → List Row → List (Kind × ℕ) → Type 0
HoldsIds widths rows ids =
    (key : RowKey) → IsKey widths key → Contains rows (point_row (key_bytes widths key)) → (i : ℕ × ℕ) → Contains key.pairs.items i → Contains ids (TagKey, i.0) × Contains ids (TagValue, i.1)

-- the entries are at most one for each name asked for, for each row of the metric in these hours, for each id of their tags, and one more
abbrev pub IsShort : List NameOf → List ℕ → ℕ → ℕ → List Placed → History → Type 0
IsShort names metric first_base last_base own h =
    (rows : List Row) (ids : List (Kind × ℕ)) → HoldsRows metric first_base last_base h rows → HoldsIds (store_after h).widths rows ids → length own ≤ length names + length rows + length ids + 1
