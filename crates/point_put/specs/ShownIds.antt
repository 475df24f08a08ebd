-- What a caller has seen of the names of a point.
use Rattle.std.specs.Prelude.{◌≡◌, ℕ, ◌<◌, ◌≤◌, List, [], ◌∷◌, ◌++◌, length, slice_index_or, Result, Ok, Err}
use Rattle.tsd_base.specs.declared.kinds.Kind.{Kind}
use Rattle.cell_model.specs.declared.events.Placed.{Placed}
use Rattle.cell_model.specs.Seen.{Seen, InEach}
use Rattle.cell_model.specs.Deeds.{Made}
pub use Rattle.uid_table.specs.ShownKeys.{AllShown, IdsShown, Rising, PairsShown, KeyShown}
use Rattle.point_put.specs.declared.fault.PutFault.{PutFault}
use Rattle.point_put.specs.declared.fault.PutFault.TheVariants.{Unknown, Filtered, Exhausted, OutOfMemory, Stopped}
use Rattle.point_put.specs.Admissions.{Admission}
use Rattle.point_put.specs.Entries.{ForNames, InTurn, WasUnknown, WasFiltered, WasExhausted}

-- the entries end with those for this one of the names: an id of each name before it was seen, and for the names behind it there is no entry
pub record StopsAt (c : Admission) (names : List (Kind × List ℕ)) (s : Seen) (kind : Kind) (name : List ℕ) (list : List Placed) : Type 0 where
  pub before : List (Kind × List ℕ)
  pub behind : List (Kind × List ℕ)
  pub names_are : names ≡ before ++ (kind, name) ∷ behind
  pub shown : AllShown s before
  pub entries : InEach s (λ h. InTurn c h (before ++ (kind, name) ∷ []) list)

-- what keeps the names from being resolved
abbrev pub Fails : Admission → List (Kind × List ℕ) → Seen → PutFault → List Placed → Type 0
Fails c names s (Unknown kind name) list = StopsAt c names s kind name list × WasUnknown c kind name list
Fails c names s (Filtered kind name) list = StopsAt c names s kind name list × WasFiltered c kind name list
Fails c names s (Exhausted kind) list = (name : List ℕ) × StopsAt c names s kind name list × WasExhausted c kind name list
Fails c names s OutOfMemory list = Unit {0}
Fails c names s Stopped list = Unit {0}

-- what was seen of the names, by the answer
abbrev pub Answered : {T : Type 0} → Admission → List (Kind × List ℕ) → Seen → Result T PutFault → List Placed → Type 0
Answered c names s (Ok x) list = AllShown s names
Answered c names s (Err fault) list = Fails c names s fault list

-- the names were asked, in this order, each once those before it were resolved
pub record NamesAsked {T : Type 0} (c : Admission) (names : List (Kind × List ℕ)) (old : Seen) (result : Result T PutFault) (new : Seen) : Type 0 where
  pub list : List Placed
  pub made : Made old list new
  pub entries : ForNames old.base.widths c names list
  pub turns : InEach new (λ h. InTurn c h names list)
  pub answered : Answered c names new result list

-- the pairs before this place are below the id, the others above it
pub record StandsAt (pairs : List (ℕ × ℕ)) (id at : ℕ) : Type 0 where
  pub within : at ≤ length pairs
  pub before : (k : ℕ) (d : ℕ × ℕ) → k < at → (slice_index_or pairs k d).0 < id
  pub behind : (k : ℕ) (d : ℕ × ℕ) → at ≤ k → k < length pairs → id < (slice_index_or pairs k d).0
