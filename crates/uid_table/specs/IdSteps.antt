-- The entries that a call makes, by its answer, where ids have these widths.
use Rattle.std.specs.Prelude.{◌≡◌, ◌⊎◌, ℕ, true, false, List, [], ◌∷◌, Option, None, Some, Result, Ok, Err, option_map}
use Rattle.tsd_base.specs.declared.kinds.Kind.{Kind}
use Rattle.tsd_hooks.specs.declared.name_patterns.Patterns.{Patterns}
use Rattle.tsd_hooks.specs.AllowedNames.{allowed}
use Rattle.qual_codec.specs.declared.cells.Cell.{Cell}
use Rattle.cell_model.specs.declared.row.Row.{Row}
use Rattle.cell_model.specs.declared.events.Step.TheVariants.{Read, Bump, Claim}
use Rattle.cell_model.specs.declared.events.Reply.TheVariants.{Shown, BumpReply, ClaimReply}
use Rattle.cell_model.specs.declared.events.Placed.{Placed}
use Rattle.cell_model.specs.declared.answers.RowsFault.{RowsFault}
use Rattle.cell_model.specs.declared.answers.RowsFault.TheVariants as rows
use Rattle.cell_model.specs.declared.answers.Bumped.TheVariants.{Given, Full}
use Rattle.cell_model.specs.declared.answers.Claimed.{Claimed}
use Rattle.cell_model.specs.declared.answers.Claimed.TheVariants.{Done, Held}
use Rattle.cell_model.specs.Store.{value_among}
use Rattle.cell_model.specs.Machine.{kind_qual}
use Rattle.cell_model.specs.KindWidths.{Widths, kind_bytes}
use Rattle.cell_model.specs.IdRows.{name_row, id_row}
pub use Rattle.cell_model.specs.Deeds.{MadeSo, Did}
use Rattle.uid_table.specs.declared.id_answers.Assigned.{Assigned}
use Rattle.uid_table.specs.declared.id_answers.Assigned.TheVariants.{Fresh, Existing, Lost}
use Rattle.uid_table.specs.declared.id_answers.ResolveFault.{ResolveFault}
use Rattle.uid_table.specs.declared.id_answers.ResolveFault.TheVariants as resolve
use Rattle.uid_table.specs.declared.id_answers.AssignFault.{AssignFault}
use Rattle.uid_table.specs.declared.id_answers.AssignFault.TheVariants as assign

-- the entry is a read of the row, which showed this value for the kind, or no cell
pub record DidRead (d : Placed) (row : Row) (kind : Kind) (shown : Option (List ℕ)) : Type 0 where
  pub cells : List Cell
  pub did : Did d (Read row) (Shown cells)
  pub shows : value_among cells (kind_qual kind) ≡ shown

-- the same of the row of a name
abbrev pub DidLook : Placed → Kind → List ℕ → Option (List ℕ) → Type 0
DidLook d kind name shown = DidRead d (name_row name) kind shown

-- one read, which showed this value, or no cell
abbrev pub OneLook : Kind → List ℕ → Option (List ℕ) → List Placed → Type 0
OneLook kind name shown list = (d : Placed) × (list ≡ d ∷ []) × DidLook d kind name shown

-- what a look at the cell of a name makes
abbrev pub LookMade : Widths → Kind → List ℕ → Result (Option ℕ) RowsFault → List Placed → Type 0
LookMade w kind name (Ok id) list = OneLook kind name (option_map (kind_bytes w kind) id) list
LookMade w kind name (Err fault) list = list ≡ []

-- one read, which showed this id, or none, where the pair was kept
abbrev pub LookedOrKept : Widths → Kind → List ℕ → ℕ → List Placed → Type 0
LookedOrKept w kind name id list = (list ≡ []) ⊎ OneLook kind name (Some (kind_bytes w kind id)) list

-- A resolve makes at most one read. `Unknown` comes only of a read that found no cell.
abbrev pub ResolveMade : Widths → Kind → List ℕ → Result ℕ ResolveFault → List Placed → Type 0
ResolveMade w kind name (Ok id) list = LookedOrKept w kind name id list
ResolveMade w kind name (Err (resolve.Unknown k)) list = (k ≡ kind) × OneLook kind name None list
ResolveMade w kind name (Err resolve.OutOfMemory) list = list ≡ []
ResolveMade w kind name (Err resolve.Stopped) list = list ≡ []

-- the entry is the bump that gave the id
abbrev pub DidBump : Placed → Kind → ℕ → Type 0
DidBump d kind id = Did d (Bump kind) (BumpReply (Given id))

-- the entry is the claim of the id for the name, which was done
abbrev pub DidReverse : Widths → Placed → Kind → List ℕ → ℕ → Type 0
DidReverse w d kind name id = Did d (Claim (id_row w kind id) (kind_qual kind) name) (ClaimReply Done)

-- the entry is the claim of the name with the id, which had this reply
abbrev pub DidForward : Widths → Placed → Kind → List ℕ → ℕ → Claimed → Type 0
DidForward w d kind name id reply = Did d (Claim (name_row name) (kind_qual kind) (kind_bytes w kind id)) (ClaimReply reply)

-- what the claim of an id for a name makes, which is never held
abbrev pub ReverseMade : Widths → Kind → List ℕ → ℕ → Result (Unit {0}) RowsFault → List Placed → Type 0
ReverseMade w kind name id (Ok x) list = (d : Placed) × (list ≡ d ∷ []) × DidReverse w d kind name id
ReverseMade w kind name id (Err fault) list = list ≡ []

-- one claim of the name with the id, which had this reply
abbrev pub OneForward : Widths → Kind → List ℕ → ℕ → Claimed → List Placed → Type 0
OneForward w kind name id reply list = (d : Placed) × (list ≡ d ∷ []) × DidForward w d kind name id reply

-- what the claim of a name makes
abbrev pub ForwardMade : Widths → Kind → List ℕ → ℕ → Result Assigned RowsFault → List Placed → Type 0
ForwardMade w kind name id (Ok (Fresh x)) list = (x ≡ id) × OneForward w kind name id Done list
ForwardMade w kind name id (Ok (Existing x)) list = ⊥
ForwardMade w kind name id (Ok (Lost wasted x)) list = (wasted ≡ id) × OneForward w kind name id (Held (kind_bytes w kind x)) list
ForwardMade w kind name id (Err fault) list = list ≡ []

-- the claim of the id for the name, and then those
abbrev pub AfterReverse : Widths → Kind → List ℕ → ℕ → (List Placed → Type 0) → List Placed → Type 0
AfterReverse w kind name id P list = (d : Placed) × (rest : List Placed) × (list ≡ d ∷ rest) × DidReverse w d kind name id × P rest

-- what the two claims of an id that was given make
abbrev pub BindMade : Widths → Kind → List ℕ → ℕ → Result Assigned RowsFault → List Placed → Type 0
BindMade w kind name id (Ok answer) list = AfterReverse w kind name id (ForwardMade w kind name id (Ok answer)) list
BindMade w kind name id (Err fault) list = (list ≡ []) ⊎ AfterReverse w kind name id (ForwardMade w kind name id (Err fault)) list

-- a bump, the claim of its id for the name, and then the claim of the name with it, which had this reply
pub record Gave (w : Widths) (kind : Kind) (name : List ℕ) (id : ℕ) (reply : Claimed) (list : List Placed) : Type 0 where
  pub bump : Placed
  pub reverse : Placed
  pub forward : Placed
  pub list_is : list ≡ bump ∷ reverse ∷ forward ∷ []
  pub bumped : DidBump bump kind id
  pub reversed : DidReverse w reverse kind name id
  pub forwarded : DidForward w forward kind name id reply

-- a bump that found the counter full
abbrev pub WasFull : Kind → List Placed → Type 0
WasFull kind list = (d : Placed) × (list ≡ d ∷ []) × Did d (Bump kind) (BumpReply Full)

-- as far as a giving came that was broken off
pub data GaveUp (w : Widths) (kind : Kind) (name : List ℕ) : List Placed → Type 0 where
  before : GaveUp w kind name []
  bumped : {d : Placed} (id : ℕ) → DidBump d kind id → GaveUp w kind name (d ∷ [])
  reversed : {d e : Placed} (id : ℕ) → DidBump d kind id → DidReverse w e kind name id → GaveUp w kind name (d ∷ e ∷ [])

-- what the giving of an id makes
abbrev pub GiveMade : Widths → Kind → List ℕ → Result Assigned AssignFault → List Placed → Type 0
GiveMade w kind name (Ok (Fresh id)) list = Gave w kind name id Done list
GiveMade w kind name (Ok (Existing id)) list = ⊥
GiveMade w kind name (Ok (Lost wasted id)) list = Gave w kind name wasted (Held (kind_bytes w kind id)) list
GiveMade w kind name (Err (assign.Filtered k)) list = ⊥
GiveMade w kind name (Err (assign.Exhausted k)) list = (k ≡ kind) × WasFull kind list
GiveMade w kind name (Err assign.OutOfMemory) list = GaveUp w kind name list
GiveMade w kind name (Err assign.Stopped) list = GaveUp w kind name list

-- a read that found no cell, and then those
abbrev pub AfterLook : Kind → List ℕ → (List Placed → Type 0) → List Placed → Type 0
AfterLook kind name P list = (d : Placed) × (rest : List Placed) × (list ≡ d ∷ rest) × DidLook d kind name None × P rest

-- the patterns allow the name, and its giving makes those
abbrev pub AllowedGive : Widths → Patterns → Kind → List ℕ → Result Assigned AssignFault → List Placed → Type 0
AllowedGive w patterns kind name answer list = (allowed patterns kind name ≡ true) × GiveMade w kind name answer list

-- the patterns don't allow the name, and nothing is made
abbrev pub NotAllowed : Patterns → Kind → List ℕ → Kind → List Placed → Type 0
NotAllowed patterns kind name told list = (told ≡ kind) × (allowed patterns kind name ≡ false) × (list ≡ [])

-- what is made for a name that has no id: the giving of one where the patterns allow the name, and else nothing
abbrev pub GiveAllowedMade : Widths → Patterns → Kind → List ℕ → Result Assigned AssignFault → List Placed → Type 0
GiveAllowedMade w patterns kind name (Ok answer) list = AllowedGive w patterns kind name (Ok answer) list
GiveAllowedMade w patterns kind name (Err (assign.Filtered k)) list = NotAllowed patterns kind name k list
GiveAllowedMade w patterns kind name (Err (assign.Exhausted k)) list = AllowedGive w patterns kind name (Err (assign.Exhausted k)) list
GiveAllowedMade w patterns kind name (Err assign.OutOfMemory) list = AllowedGive w patterns kind name (Err assign.OutOfMemory) list
GiveAllowedMade w patterns kind name (Err assign.Stopped) list = AllowedGive w patterns kind name (Err assign.Stopped) list

-- An assignment makes no entry where the pair was kept, and else one read. Where that found the cell it makes nothing more. Else it gives an id where
-- the patterns allow the name, and is `Filtered` where they don't.
abbrev pub AssignMade : Widths → Patterns → Kind → List ℕ → Result Assigned AssignFault → List Placed → Type 0
AssignMade w patterns kind name (Ok (Existing id)) list = LookedOrKept w kind name id list
AssignMade w patterns kind name (Ok (Fresh id)) list = AfterLook kind name (AllowedGive w patterns kind name (Ok (Fresh id))) list
AssignMade w patterns kind name (Ok (Lost wasted id)) list = AfterLook kind name (AllowedGive w patterns kind name (Ok (Lost wasted id))) list
AssignMade w patterns kind name (Err (assign.Filtered k)) list = AfterLook kind name (NotAllowed patterns kind name k) list
AssignMade w patterns kind name (Err (assign.Exhausted k)) list = AfterLook kind name (AllowedGive w patterns kind name (Err (assign.Exhausted k))) list
AssignMade w patterns kind name (Err assign.OutOfMemory) list = (list ≡ []) ⊎ AfterLook kind name (AllowedGive w patterns kind name (Err assign.OutOfMemory)) list
AssignMade w patterns kind name (Err assign.Stopped) list = (list ≡ []) ⊎ AfterLook kind name (AllowedGive w patterns kind name (Err assign.Stopped)) list

-- one read of the id's row, which showed this name
abbrev pub OneNameRead : Widths → Kind → ℕ → List ℕ → List Placed → Type 0
OneNameRead w kind id name list = (d : Placed) × (list ≡ d ∷ []) × DidRead d (id_row w kind id) kind (Some name)

-- the naming of an id makes one read, which showed the name, or none, where the pair was kept
abbrev pub NameMade : Widths → Kind → ℕ → Result (List ℕ) RowsFault → List Placed → Type 0
NameMade w kind id (Ok name) list = (list ≡ []) ⊎ OneNameRead w kind id name list
NameMade w kind id (Err rows.OutOfMemory) list = (list ≡ []) ⊎ ((name : List ℕ) × OneNameRead w kind id name list)
NameMade w kind id (Err rows.Stopped) list = list ≡ []

-- the name that bytes are, or want of memory
abbrev pub IsNamed : List ℕ → Result (List ℕ) RowsFault → Type 0
IsNamed bytes (Ok name) = name ≡ bytes
IsNamed bytes (Err rows.OutOfMemory) = Unit {0}
IsNamed bytes (Err rows.Stopped) = ⊥
