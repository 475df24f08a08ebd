-- Asking for the ids of the names of a sub query.
use Rattle.std.specs.Prelude.{◌≡◌, ℕ, ◌≤◌, List, ◌∷◌, ◌++◌, length, Contains, Result, Ok, Err}
use Rattle.cell_model.specs.declared.events.Placed.{Placed}
use Rattle.cell_model.specs.Seen.{Seen}
use Rattle.cell_model.specs.Deeds.{Made}
use Rattle.uid_table.specs.Shown.{HasShown}
use Rattle.metric_scan.specs.declared.fault.AskFault.{AskFault}
use Rattle.metric_scan.specs.declared.fault.AskFault.TheVariants.{Unknown, OutOfMemory, Stopped}
use Rattle.metric_scan.specs.RowNames.{AreReads}
use Rattle.metric_scan.specs.Parts.{NameOf, FoundNone}

-- the caller has seen the id of each of the names
abbrev pub AreShown : Seen → List NameOf → Type 0
AreShown s names = (n : NameOf) → Contains names n → (id : ℕ) × HasShown s n.0 n.1 id

-- the entries are reads, at most one for each of the names
pub record AreLooks (names : List NameOf) (list : List Placed) : Type 0 where
  pub reads : AreReads list
  pub few : length list ≤ length names

-- each of the names was asked for and has an id
pub record AreResolved (old : Seen) (names : List NameOf) (new : Seen) : Type 0 where
  pub list : List Placed
  pub made : Made old list new
  pub looks : AreLooks names list
  pub shown : AreShown new names

-- the entries found no id of this one of the names, and those before it have theirs
pub record IsFirstUnknown (names : List NameOf) (n : NameOf) (list : List Placed) (new : Seen) : Type 0 where
  pub before : List NameOf
  pub after : List NameOf
  pub cut : names ≡ before ++ n ∷ after
  pub shown : AreShown new before
  pub none : FoundNone list n

abbrev pub UnresolvedBy : List NameOf → List Placed → Seen → AskFault → Type 0
UnresolvedBy names list new (Unknown kind name) = IsFirstUnknown names (kind, name) list new
UnresolvedBy names list new OutOfMemory = Unit {0}
UnresolvedBy names list new Stopped = Unit {0}
UnresolvedBy names list new fault = ⊥

-- one of the names has no id, or the asking was broken off
pub record IsUnresolved (old : Seen) (names : List NameOf) (fault : AskFault) (new : Seen) : Type 0 where
  pub list : List Placed
  pub made : Made old list new
  pub looks : AreLooks names list
  pub cause : UnresolvedBy names list new fault

-- the names were asked for, and so the answer is about them
abbrev pub Resolves : {X : Type 0} → Seen → List NameOf → (Seen → X → Type 0) → Result X AskFault → Seen → Type 0
Resolves old names Is (Ok x) new = AreResolved old names new × Is new x
Resolves old names Is (Err fault) new = IsUnresolved old names fault new
