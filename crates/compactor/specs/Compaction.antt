-- What a compaction makes of a row, by its answer.
use Rattle.std.specs.Prelude.{◌≡◌, ℕ, ℤ, ◌<◌, ◌≤◌, not, List, [], ◌∷◌, length, map, reverse, filter, Result, Ok, Err}
use Rattle.row_hours.specs.declared.hours.TheConstants.{LAST_OFFSET}
use Rattle.qual_codec.specs.declared.cells.Cell.{Cell}
use Rattle.qual_codec.specs.declared.cells.MergeFault.TheVariants as merge
use Rattle.qual_codec.specs.CellDots.{column_qual}
use Rattle.qual_codec.specs.Merge.{IsMerged, TellsConflict}
use Rattle.cell_model.specs.declared.row.Row.{Row}
use Rattle.cell_model.specs.declared.events.Step.TheVariants.{Read, PutMerged, DropCells}
use Rattle.cell_model.specs.declared.events.Reply.TheVariants.{Shown, Written, Removed}
use Rattle.cell_model.specs.declared.events.Placed.{Placed}
use Rattle.cell_model.specs.Store.{same_bytes}
use Rattle.cell_model.specs.Deeds.{Did}
use Rattle.compactor.specs.declared.compaction.Compacted.{Compacted}
use Rattle.compactor.specs.declared.compaction.Compacted.TheVariants.{Nothing, Merged}
use Rattle.compactor.specs.declared.compaction.CompactFault.{CompactFault}
use Rattle.compactor.specs.declared.compaction.CompactFault.TheVariants.{Conflict, OutOfMemory, Stopped}

-- the entry is a read of the row, which showed these cells
abbrev pub DidRead : Placed → Row → List Cell → Type 0
DidRead d row cells = Did d (Read row) (Shown cells)

-- it writes the merged cell
abbrev pub DidPut : Placed → Row → List ℕ → List ℕ → Type 0
DidPut d row qual value = Did d (PutMerged row qual value) Written

-- the cells but the column, which a compaction leaves as it is
abbrev pub by_items : List Cell → List Cell
by_items cells = filter (λ (c : Cell). not (same_bytes c.qual column_qual)) cells

-- each cell but the one of this qualifier, with its version, from the last cell on
abbrev pub others : List ℕ → List Cell → List (List ℕ × ℕ)
others qual cells = map (λ (c : Cell). (c.qual, c.version)) (filter (λ (c : Cell). not (same_bytes c.qual qual)) (reverse cells))

-- it drops the cells that were merged, but the merged one itself, and so many of them were removed
abbrev pub DidDrop : Placed → Row → List ℕ → List Cell → ℕ → Type 0
DidDrop d row qual cells count = Did d (DropCells row (others qual cells)) (Removed count)

-- the read showed several cells beside the column, which become this one
pub record Merges (row : Row) (read : Placed) (cells : List Cell) (qual value : List ℕ) : Type 0 where
  pub did : DidRead read row cells
  pub several : 2 ≤ length (by_items cells)
  pub merged : IsMerged (by_items cells) qual value

-- a read that showed fewer than two cells beside the column
pub record HadFew (row : Row) (list : List Placed) : Type 0 where
  pub read : Placed
  pub cells : List Cell
  pub list_is : list ≡ read ∷ []
  pub did : DidRead read row cells
  pub few : length (by_items cells) < 2

-- a read, the put of the merged cell, and the drop of the others
pub record WasMerged (row : Row) (before dropped : ℕ) (list : List Placed) : Type 0 where
  pub read : Placed
  pub put : Placed
  pub drop : Placed
  pub cells : List Cell
  pub qual : List ℕ
  pub value : List ℕ
  pub list_is : list ≡ read ∷ put ∷ drop ∷ []
  pub merges : Merges row read cells qual value
  pub did_put : DidPut put row qual value
  pub did_drop : DidDrop drop row qual (by_items cells) dropped
  pub before_is : before ≡ length (by_items cells)

-- a read that showed several cells beside the column, two of which have different values at this offset, which is the least such
pub record HadConflict (row : Row) (offset : ℕ) (a b : ℤ) (list : List Placed) : Type 0 where
  pub read : Placed
  pub cells : List Cell
  pub list_is : list ≡ read ∷ []
  pub did : DidRead read row cells
  pub several : 2 ≤ length (by_items cells)
  pub conflict : TellsConflict (by_items cells) 0 LAST_OFFSET (merge.Conflict offset a b)

-- no entry that writes: none, or a read that showed several cells beside the column
pub data WroteNothing (row : Row) : List Placed → Type 0 where
  unread : WroteNothing row []
  read : {d : Placed} {cells : List Cell} → DidRead d row cells → 2 ≤ length (by_items cells) → WroteNothing row (d ∷ [])

-- as far as a compaction came that was stopped: before the read, before the put, or before the drop
pub data CameTo (row : Row) : List Placed → Type 0 where
  unread : CameTo row []
  read : {d : Placed} {cells : List Cell} {qual value : List ℕ} → Merges row d cells qual value → CameTo row (d ∷ [])
  put : {d e : Placed} {cells : List Cell} {qual value : List ℕ} → Merges row d cells qual value → DidPut e row qual value → CameTo row (d ∷ e ∷ [])

-- A compaction reads the row, and leaves the column. Fewer than two other cells are left, and so are cells with a conflict; else the merged cell is written, and then the others are dropped.
abbrev pub CompactMade : Row → Result Compacted CompactFault → List Placed → Type 0
CompactMade row (Ok Nothing) list = HadFew row list
CompactMade row (Ok (Merged before dropped)) list = WasMerged row before dropped list
CompactMade row (Err (Conflict offset a b)) list = HadConflict row offset a b list
CompactMade row (Err OutOfMemory) list = WroteNothing row list
CompactMade row (Err Stopped) list = CameTo row list
