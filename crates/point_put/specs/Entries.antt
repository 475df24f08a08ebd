-- The entries that a caller makes for the names of a point, where ids have these widths.
use Rattle.std.specs.Prelude.{◌≡◌, ℕ, ◌-◌, true, false, List, [], ◌∷◌, ◌++◌, Contains, Option, None}
use Rattle.tsd_base.specs.declared.kinds.Kind.{Kind}
use Rattle.cell_model.specs.KindWidths.{Widths}
use Rattle.cell_model.specs.History.{History, first, store_after}
use Rattle.cell_model.specs.IdRows.{IsResolved, AllResolved}
use Rattle.cell_model.specs.declared.events.Step.TheVariants.{Bump}
use Rattle.cell_model.specs.declared.events.Reply.TheVariants.{BumpReply}
use Rattle.cell_model.specs.declared.events.Placed.{Placed}
use Rattle.cell_model.specs.declared.answers.Bumped.TheVariants.{Full}
use Rattle.cell_model.specs.declared.answers.Claimed.{Claimed}
use Rattle.uid_table.specs.IdSteps.{Did, DidLook, DidBump, DidReverse, DidForward}
use Rattle.tsd_hooks.specs.AllowedNames.{allowed}
use Rattle.point_put.specs.Configs.{makes}
use Rattle.point_put.specs.Admissions.{Admission, IsAdmitted}

-- the entries for one name: at most four, at most one of them a bump, and that only where the name may be given an id, after a read that found no cell
pub data ForName (w : Widths) (c : Admission) (kind : Kind) (name : List ℕ) : List Placed → Type 0 where
  none : ForName w c kind name []
  look : {r : Placed} (shown : Option (List ℕ)) → DidLook r kind name shown → ForName w c kind name (r ∷ [])
  full : {r b : Placed} → IsAdmitted c kind name → DidLook r kind name None → Did b (Bump kind) (BumpReply Full) → ForName w c kind name (r ∷ b ∷ [])
  bump : {r b : Placed} (id : ℕ) → IsAdmitted c kind name → DidLook r kind name None → DidBump b kind id → ForName w c kind name (r ∷ b ∷ [])
  reverse : {r b n : Placed} (id : ℕ) → IsAdmitted c kind name → DidLook r kind name None → DidBump b kind id → DidReverse w n kind name id → ForName w c kind name (r ∷ b ∷ n ∷ [])
  forward : {r b n f : Placed} (id : ℕ) (reply : Claimed) → IsAdmitted c kind name → DidLook r kind name None → DidBump b kind id → DidReverse w n kind name id
      → DidForward w f kind name id reply → ForName w c kind name (r ∷ b ∷ n ∷ f ∷ [])

-- the entries for these names, in this order
pub data ForNames (w : Widths) (c : Admission) : List (Kind × List ℕ) → List Placed → Type 0 where
  nil : ForNames w c [] []
  more : {kind : Kind} {name : List ℕ} {names : List (Kind × List ℕ)} {part list : List Placed} → ForName w c kind name part → ForNames w c names list → ForNames w c ((kind, name) ∷ names) (part ++ list)

-- the name is resolved in the history before each of these entries
abbrev pub ResolvedBefore : History → Kind × List ℕ → List Placed → Type 0
ResolvedBefore h n list = (d : Placed) → Contains list d → IsResolved (first (d.place - 1) h) n

-- the entries for these names, one name after the other: each name is resolved before there is an entry for a later one
pub data InTurn (c : Admission) (h : History) : List (Kind × List ℕ) → List Placed → Type 0 where
  done : InTurn c h [] []
  then_next : {kind : Kind} {name : List ℕ} {names : List (Kind × List ℕ)} {part list : List Placed} → ForName (store_after h).widths c kind name part → ResolvedBefore h (kind, name) list → InTurn c h names list
      → InTurn c h ((kind, name) ∷ names) (part ++ list)

-- The entries end with those for this one of the names: each name before it is resolved, and for the names behind it there is no entry.
pub record EndsAt (c : Admission) (h : History) (names : List (Kind × List ℕ)) (kind : Kind) (name : List ℕ) (list : List Placed) : Type 0 where
  pub before : List (Kind × List ℕ)
  pub behind : List (Kind × List ℕ)
  pub names_are : names ≡ before ++ (kind, name) ∷ behind
  pub resolved : AllResolved h before
  pub entries : InTurn c h (before ++ (kind, name) ∷ []) list

-- the last entry is a read that found no cell of the name
abbrev pub EndsUnfound : Kind → List ℕ → List Placed → Type 0
EndsUnfound kind name list = (front : List Placed) × (d : Placed) × (list ≡ front ++ d ∷ []) × DidLook d kind name None

-- names of the kind aren't given ids, and the last entry is a read that found no cell of this one
abbrev pub WasUnknown : Admission → Kind → List ℕ → List Placed → Type 0
WasUnknown c kind name list = (makes c.config kind ≡ false) × EndsUnfound kind name list

-- names of the kind are given ids, the patterns don't allow this one, and the last entry is a read that found no cell of it
abbrev pub WasFiltered : Admission → Kind → List ℕ → List Placed → Type 0
WasFiltered c kind name list = (makes c.config kind ≡ true) × (allowed c.patterns kind name ≡ false) × EndsUnfound kind name list

-- the name may be given an id, and the last entries are a read that found no cell of it and a bump that found the counter full
abbrev pub WasExhausted : Admission → Kind → List ℕ → List Placed → Type 0
WasExhausted c kind name list =
    IsAdmitted c kind name × ((front : List Placed) × (r : Placed) × (b : Placed) × (list ≡ front ++ r ∷ b ∷ []) × DidLook r kind name None × Did b (Bump kind) (BumpReply Full))
