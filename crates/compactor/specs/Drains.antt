-- Draining a queue.
use Rattle.std.specs.Prelude.{◌≡◌, ℕ, ℤ, suc, ◌<◌, ◌≤◌, Bool, true, false, List, [], ◌∷◌, ◌++◌, length, All, Option, None, Some, Result, Ok, Err}
use Rattle.cell_model.specs.declared.row.Row.{Row}
use Rattle.cell_model.specs.declared.events.Placed.{Placed}
use Rattle.cell_model.specs.declared.answers.Stored.{Stored}
use Rattle.cell_model.specs.declared.answers.RowsFault.{RowsFault}
use Rattle.compactor.specs.declared.compaction.Compacted.{Compacted}
use Rattle.compactor.specs.declared.compaction.CompactFault.TheVariants.{Conflict}
use Rattle.compactor.specs.declared.compaction.Drained.{Drained}
use Rattle.compactor.specs.CompactFaults.{fault_of_rows}
use Rattle.compactor.specs.Compaction.{CompactMade}

-- no row's hour begins before this second
abbrev pub NoneBelow : ℕ → List Stored → Type 0
NoneBelow before rows = All (λ (s : Stored). before ≤ s.base) rows

-- the row is the first of the queue, and its hour begins before this second
pub record IsNextBelow (before : ℕ) (rows : List Stored) (row : Row) : Type 0 where
  pub first : Stored
  pub rest : List Stored
  pub rows_are : rows ≡ first ∷ rest
  pub row_is : row ≡ first.row
  pub below : first.base < before

-- what the compaction of one queued row makes: whether it has a conflict, or a fault
abbrev pub RowMade : Row → Result Bool RowsFault → List Placed → Type 0
RowMade row (Ok false) list = (c : Compacted) × CompactMade row (Ok c) list
RowMade row (Ok true) list = (offset : ℕ) × (a : ℤ) × (b : ℤ) × CompactMade row (Err (Conflict offset a b)) list
RowMade row (Err fault) list = CompactMade row (Err (fault_of_rows fault)) list

-- the row is the first of the old queue, and is compacted by these entries; then it is gone, but after a fault
abbrev pub OneMade : ℕ → List Stored → Result (Option Bool) RowsFault → List Stored → List Placed → Type 0
OneMade before old (Ok None) new list = NoneBelow before old × (new ≡ old) × (list ≡ [])
OneMade before old (Ok (Some conflict)) new list = (row : Row) × (n : IsNextBelow before old row) × (new ≡ n.rest) × RowMade row (Ok conflict) list
OneMade before old (Err fault) new list = (row : Row) × IsNextBelow before old row × (new ≡ old) × RowMade row (Err fault) list

-- The rows were compacted one after the other by these entries, and so many of them have a conflict.
pub data RowsMade : List Stored → ℕ → List Placed → Type 0 where
  none : RowsMade [] 0 []
  compacted : {s : Stored} {rows : List Stored} {conflicts : ℕ} {rest : List Placed} (first : List Placed) → RowMade s.row (Ok false) first → RowsMade rows conflicts rest → RowsMade (s ∷ rows) conflicts (first ++ rest)
  conflict : {s : Stored} {rows : List Stored} {conflicts : ℕ} {rest : List Placed} (first : List Placed) → RowMade s.row (Ok true) first → RowsMade rows conflicts rest → RowsMade (s ∷ rows) (suc conflicts) (first ++ rest)

-- the first rows of the old queue were compacted, all of hours before this second, and the others are left
pub record Drains (before : ℕ) (old : List Stored) (done conflicts : ℕ) (list : List Placed) (new : List Stored) : Type 0 where
  pub taken : List Stored
  pub parts : old ≡ taken ++ new
  pub count : length taken ≡ done
  pub below : All (λ (s : Stored). s.base < before) taken
  pub made : RowsMade taken conflicts list

-- So many rows were compacted at most; where they are fewer, no row of an hour before this second is left.
pub record WasDrained (before max : ℕ) (old : List Stored) (d : Drained) (list : List Placed) (new : List Stored) : Type 0 where
  pub drains : Drains before old d.done d.conflicts list new
  pub most : d.done ≤ max
  pub all : d.done < max → NoneBelow before new

-- the compaction of a row had this fault, after fewer rows; the row is still the first of the queue
pub record WasBroken (before max : ℕ) (old : List Stored) (fault : RowsFault) (list : List Placed) (new : List Stored) : Type 0 where
  pub done : ℕ
  pub conflicts : ℕ
  pub earlier : List Placed
  pub last : List Placed
  pub row : Row
  pub drains : Drains before old done conflicts earlier new
  pub fewer : done < max
  pub hand : IsNextBelow before new row
  pub list_is : list ≡ earlier ++ last
  pub made : RowMade row (Err fault) last

abbrev pub DrainMade : ℕ → ℕ → List Stored → Result Drained RowsFault → List Stored → List Placed → Type 0
DrainMade before max old (Ok d) new list = WasDrained before max old d list new
DrainMade before max old (Err fault) new list = WasBroken before max old fault list new
