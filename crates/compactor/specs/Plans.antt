-- What is to be written of a row, and what writing it makes.
use Rattle.std.specs.Prelude.{◌≡◌, ◌⊎◌, ℕ, List, [], ◌∷◌, length, All, Contains, Result, Ok, Err}
use Rattle.row_hours.specs.declared.hours.TheConstants.{LAST_OFFSET}
use Rattle.qual_codec.specs.declared.cells.Cell.{Cell}
use Rattle.qual_codec.specs.declared.cells.MergeFault.TheVariants as merge
use Rattle.qual_codec.specs.Order.{IsAtMost}
use Rattle.qual_codec.specs.Merge.{IsMerged, TellsConflict}
use Rattle.cell_model.specs.declared.row.Row.{Row}
use Rattle.cell_model.specs.declared.events.Placed.{Placed}
use Rattle.cell_model.specs.Seen.{Seen, KnowsCell}
use Rattle.compactor.specs.declared.compaction.Compacted.{Compacted}
use Rattle.compactor.specs.declared.compaction.Compacted.TheVariants.{Nothing, Merged}
use Rattle.compactor.specs.declared.compaction.CompactFault.{CompactFault}
use Rattle.compactor.specs.declared.compaction.CompactFault.TheVariants.{Conflict, OutOfMemory, Stopped}
use Rattle.compactor.specs.declared.plan.Plan.{Plan}
use Rattle.compactor.specs.Compaction.{others, DidPut, DidDrop}

-- the plan is the merged cell of these cells, and the drop of the others
pub record IsPlan (row : Row) (cells : List Cell) (p : Plan) : Type 0 where
  pub row_is : p.row ≡ row
  pub merged : IsMerged cells p.merged.qual p.merged.value
  pub at_least : All (λ (c : Cell). IsAtMost c.qual p.merged.qual) cells
  pub drops_are : p.drops ≡ others p.merged.qual cells

-- why there is no plan
abbrev pub CannotPlan : List Cell → CompactFault → Type 0
CannotPlan cells (Conflict offset a b) = TellsConflict cells 0 LAST_OFFSET (merge.Conflict offset a b)
CannotPlan cells OutOfMemory = Unit {0}
CannotPlan cells Stopped = ⊥

-- the caller has seen each of the cells in the row
abbrev pub KnowsEach : Seen → Row → List Cell → Type 0
KnowsEach s row cells = (c : Cell) → Contains cells c → KnowsCell s row c.qual c.value

-- the put of the merged cell, and the drop of the others
pub record WroteBoth (row : Row) (cells : List Cell) (qual value : List ℕ) (before dropped : ℕ) (list : List Placed) : Type 0 where
  pub put : Placed
  pub drop : Placed
  pub list_is : list ≡ put ∷ drop ∷ []
  pub did_put : DidPut put row qual value
  pub did_drop : DidDrop drop row qual cells dropped
  pub before_is : before ≡ length cells

-- the put alone
abbrev pub WrotePut : Row → List ℕ → List ℕ → List Placed → Type 0
WrotePut row qual value list = (put : Placed) × (list ≡ put ∷ []) × DidPut put row qual value

-- what writing makes: without memory nothing, and stopped nothing or the put alone
abbrev pub WriteMade : Row → List Cell → List ℕ → List ℕ → Result Compacted CompactFault → List Placed → Type 0
WriteMade row cells qual value (Ok Nothing) list = ⊥
WriteMade row cells qual value (Ok (Merged before dropped)) list = WroteBoth row cells qual value before dropped list
WriteMade row cells qual value (Err (Conflict offset a b)) list = ⊥
WriteMade row cells qual value (Err OutOfMemory) list = list ≡ []
WriteMade row cells qual value (Err Stopped) list = (list ≡ []) ⊎ WrotePut row qual value list
