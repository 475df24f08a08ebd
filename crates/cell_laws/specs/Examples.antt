-- Worked examples, computed by the definitions.
use Rattle.std.specs.Prelude.{◌≡◌, ℕ, ℤ, pos, neg_ℤ, ◌-◌, ◌^◌, Bool, true, false, List, [], ◌∷◌, ◌++◌, None, Some}
use Rattle.row_key.specs.Made.{three}
use Rattle.tsd_base.specs.declared.kinds.Kind.{Kind}
use Rattle.tsd_base.specs.declared.kinds.Kind.TheVariants.{Metric, TagKey, TagValue}
use Rattle.row_key.specs.declared.tables.Table.TheVariants.{Ids, Names, Points}
use Rattle.qual_codec.specs.declared.cells.Cell.{Cell}
use Rattle.cell_model.specs.declared.row.Row.{Row}
use Rattle.cell_model.specs.declared.answers.Bumped.TheVariants.{Given}
use Rattle.cell_model.specs.declared.answers.Claimed.TheVariants.{Done, Held}
use Rattle.cell_model.specs.declared.events.Step.{Step}
use Rattle.cell_model.specs.declared.events.Step.TheVariants.{Open, Read, Bump, Claim, PutPoint, PutMerged, DropCells}
use Rattle.cell_model.specs.declared.events.Reply.{Reply}
use Rattle.cell_model.specs.declared.events.Reply.TheVariants.{Opened, Shown, BumpReply, ClaimReply, Written, Removed}
use Rattle.cell_model.specs.declared.events.Entry.{Entry}
use Rattle.cell_model.specs.declared.row.Found.{Found}
use Rattle.tsd_base.specs.Points.{DataPoint}
use Rattle.cell_model.specs.KindWidths.{kind_bytes}
use Rattle.cell_model.specs.Store.{Store, no_cells, content_at, cells_of, next_row_of, drop_count}
use Rattle.cell_model.specs.Ranges.{InOneRange}
use Rattle.cell_model.specs.Machine.{after, kind_qual, counter_of}
use Rattle.cell_model.specs.History.{History, store_after}
use Rattle.cell_model.specs.History.History.{Base, Then}
use Rattle.cell_model.specs.IdRows.{name_row, id_row, id_of, name_of}
use Rattle.cell_model.specs.Lawful.{IsLawful}

-- the caller made the step and had this reply
abbrev pub did : ℕ → Step → Reply → Entry
did caller step reply = record { caller = caller; step = step; reply = reply }

-- the history with these entries behind it
abbrev pub told : History → List Entry → History
told h [] = h
told h (e ∷ entries) = told (Then h e) entries

-- the name `a`
abbrev pub name_a : List ℕ
name_a = 97 ∷ []

-- two callers find no id for a name, each is given one, and the second is first to write it
abbrev pub race : List Entry
race =
    did 1 Open (Opened 1)
    ∷ did 2 Open (Opened 2)
    ∷ did 1 (Read (name_row name_a)) (Shown [])
    ∷ did 1 (Bump Metric) (BumpReply (Given 1))
    ∷ did 1 (Claim (id_row three Metric 1) (kind_qual Metric) name_a) (ClaimReply Done)
    ∷ did 2 (Read (name_row name_a)) (Shown [])
    ∷ did 2 (Bump Metric) (BumpReply (Given 2))
    ∷ did 2 (Claim (id_row three Metric 2) (kind_qual Metric) name_a) (ClaimReply Done)
    ∷ did 2 (Claim (name_row name_a) (kind_qual Metric) (kind_bytes three Metric 2)) (ClaimReply Done)
    ∷ did 1 (Claim (name_row name_a) (kind_qual Metric) (kind_bytes three Metric 1)) (ClaimReply (Held (kind_bytes three Metric 2)))
    ∷ []

-- the race over the empty store
abbrev pub raced : History
raced = told (Base (no_cells three)) race

-- the race is lawful; the name has the id of the one who was first, and the id of the other is wasted
pub record RaceIsLost : Type 0 where
  pub lawful : IsLawful raced
  pub id : id_of raced Metric name_a ≡ Some 2
  pub name : name_of raced Metric 2 ≡ Some name_a
  pub wasted : name_of raced Metric 1 ≡ Some name_a
  pub counter : counter_of (store_after raced) Metric ≡ 2

-- the row of a series and an hour: metric 1, the hour from 1356998400, tag key 1 with value 1
abbrev pub series_row : Row
series_row = record { table = Points; bytes = 0 ∷ 0 ∷ 1 ∷ 80 ∷ 226 ∷ 39 ∷ 0 ∷ 0 ∷ 0 ∷ 1 ∷ 0 ∷ 0 ∷ 1 ∷ [] }

-- the same series' point, of this time, form and value
abbrev pub point : ℕ → Bool → ℤ → DataPoint
point time fine value = record { metric = 109 ∷ []; tags = ((104 ∷ []), name_a) ∷ []; time = time; fine = fine; value = value }

-- the qualifiers and values of 42 at 0 s, of 300 at 60 s, of -1 at 250 ms and of 7 at 1 s, and of what merges them
abbrev pub at_start : List ℕ
at_start = 0 ∷ 0 ∷ []

abbrev pub at_minute : List ℕ
at_minute = 3 ∷ 193 ∷ []

abbrev pub at_quarter : List ℕ
at_quarter = 240 ∷ 0 ∷ 62 ∷ 128 ∷ []

abbrev pub at_second : List ℕ
at_second = 0 ∷ 16 ∷ []

abbrev pub three_qual : List ℕ
three_qual = 0 ∷ 0 ∷ 240 ∷ 0 ∷ 62 ∷ 128 ∷ 3 ∷ 193 ∷ []

abbrev pub three_value : List ℕ
three_value = 42 ∷ 255 ∷ 1 ∷ 44 ∷ 1 ∷ []

abbrev pub four_qual : List ℕ
four_qual = 0 ∷ 0 ∷ 240 ∷ 0 ∷ 62 ∷ 128 ∷ 0 ∷ 16 ∷ 3 ∷ 193 ∷ []

abbrev pub four_value : List ℕ
four_value = 42 ∷ 255 ∷ 7 ∷ 1 ∷ 44 ∷ 1 ∷ []

-- the name of a kind is given its first id
abbrev pub names : Kind → List ℕ → List Entry
names kind name =
    did 1 (Bump kind) (BumpReply (Given 1))
    ∷ did 1 (Claim (id_row three kind 1) (kind_qual kind) name) (ClaimReply Done)
    ∷ did 1 (Claim (name_row name) (kind_qual kind) (kind_bytes three kind 1)) (ClaimReply Done)
    ∷ []

-- three points are put and compacted, then a fourth is put, and all are compacted
abbrev pub two_compactions : List Entry
two_compactions =
    did 1 (PutPoint (point 1356998400000 false (pos 42)) series_row at_start (42 ∷ [])) Written
    ∷ did 1 (PutPoint (point 1356998460000 false (pos 300)) series_row at_minute (1 ∷ 44 ∷ [])) Written
    ∷ did 1 (PutPoint (point 1356998400250 true (neg_ℤ (pos 1))) series_row at_quarter (255 ∷ [])) Written
    ∷ did 1 (PutMerged series_row three_qual three_value) Written
    ∷ did 1 (DropCells series_row ((at_start, 11) ∷ (at_minute, 12) ∷ (at_quarter, 13) ∷ [])) (Removed 3)
    ∷ did 1 (PutPoint (point 1356998401000 false (pos 7)) series_row at_second (7 ∷ [])) Written
    ∷ did 1 (PutMerged series_row four_qual four_value) Written
    ∷ did 1 (DropCells series_row ((three_qual, 14) ∷ (at_second, 16) ∷ [])) (Removed 2)
    ∷ []

-- a caller gives ids to the names of a series, puts points and compacts their row twice
abbrev pub compacted : History
compacted = told (Base (no_cells three)) (did 1 Open (Opened 1) ∷ names Metric (109 ∷ []) ++ names TagKey (104 ∷ []) ++ names TagValue name_a ++ two_compactions)

-- a cell of this qualifier, value and version
abbrev pub cell : List ℕ → List ℕ → ℕ → Cell
cell qual value version = record { qual = qual; value = value; version = version }

-- the history is lawful, and of the six cells that were written the last merged one is left
pub record OneCellIsLeft : Type 0 where
  pub lawful : IsLawful compacted
  pub left : cells_of (store_after compacted) series_row ≡ cell four_qual four_value 17 ∷ []

-- the store of one cell, which was written at this place
abbrev pub written_at : ℕ → Store
written_at place = after (no_cells three) place (PutMerged series_row at_start (42 ∷ []))

-- the greatest version is 2 ^ 64 - 1, and the one after it is 0; a drop takes versions up to the one that it names
pub record VersionsEnd : Type 0 where
  pub greatest : content_at (written_at (2 ^ 64 - 1)) series_row at_start ≡ Some (record { value = 42 ∷ []; version = 18446744073709551615 })
  pub again : content_at (written_at (2 ^ 64)) series_row at_start ≡ Some (record { value = 42 ∷ []; version = 0 })
  pub below : drop_count (written_at (2 ^ 64 - 1)) series_row ((at_start, 18446744073709551614) ∷ []) ≡ 0
  pub taken : drop_count (written_at (2 ^ 64 - 1)) series_row ((at_start, 18446744073709551615) ∷ []) ≡ 1
  pub other : drop_count (written_at (2 ^ 64 - 1)) series_row ((at_second, 18446744073709551615) ∷ []) ≡ 0

-- the least rows of each range of names, and the bytes at which it ends
pub record RangesEnd : Type 0 where
  pub low : InOneRange three Ids (1 ∷ []) (65 ∷ [])
  pub capitals : InOneRange three Ids (65 ∷ []) (97 ∷ [])
  pub early : InOneRange three Ids (97 ∷ []) (110 ∷ [])
  pub late : InOneRange three Ids (110 ∷ []) (123 ∷ [])
  pub metric : InOneRange three Points (0 ∷ 0 ∷ 1 ∷ []) (0 ∷ 0 ∷ 1 ∷ 255 ∷ 255 ∷ [])
  pub no_counters : InOneRange three Ids (0 ∷ []) (65 ∷ []) → ⊥
  pub no_capital : InOneRange three Ids (1 ∷ []) (65 ∷ 0 ∷ []) → ⊥
  pub no_small : InOneRange three Ids (65 ∷ []) (97 ∷ 0 ∷ []) → ⊥
  pub no_late : InOneRange three Ids (97 ∷ []) (110 ∷ 0 ∷ []) → ⊥
  pub no_end : InOneRange three Ids (110 ∷ []) (123 ∷ 0 ∷ []) → ⊥
  pub no_other_metric : InOneRange three Points (0 ∷ 0 ∷ 1 ∷ []) (0 ∷ 0 ∷ 2 ∷ []) → ⊥
  pub no_names : (from to : List ℕ) → InOneRange three Names from to → ⊥

-- the machine alone: the names `a` and `b`, each with an id
abbrev pub two_names : List Entry
two_names =
    did 1 (PutMerged (name_row (97 ∷ [])) (kind_qual Metric) (kind_bytes three Metric 1)) Written
    ∷ did 1 (PutMerged (name_row (98 ∷ [])) (kind_qual Metric) (kind_bytes three Metric 2)) Written
    ∷ []

-- the store with these two rows
abbrev pub named : Store
named = store_after (told (Base (no_cells three)) two_names)

-- the row of `a` or of `b` with its cell
abbrev pub row_a : Found
row_a = record { row = name_row (97 ∷ []); cells = cell (kind_qual Metric) (kind_bytes three Metric 1) 1 ∷ [] }

abbrev pub row_b : Found
row_b = record { row = name_row (98 ∷ []); cells = cell (kind_qual Metric) (kind_bytes three Metric 2) 2 ∷ [] }

-- a range has its first row, and not the row at its end
pub record NextRowEnds : Type 0 where
  pub first : next_row_of named Ids (97 ∷ []) (98 ∷ []) ≡ Some row_a
  pub behind : next_row_of named Ids (97 ∷ 0 ∷ []) (98 ∷ []) ≡ None
  pub last : next_row_of named Ids (97 ∷ 0 ∷ []) (98 ∷ 0 ∷ []) ≡ Some row_b
  pub empty_range : next_row_of named Ids (97 ∷ []) (97 ∷ []) ≡ None
  pub turned : next_row_of named Ids (98 ∷ []) (97 ∷ []) ≡ None
  pub other_table : next_row_of named Points (97 ∷ []) (99 ∷ []) ≡ None
