-- How an import puts a point, by the entries that its caller makes between two lengths of a history.
use Rattle.std.specs.Prelude.{◌≡◌, ◌⊎◌, ℕ, ◌≤◌, Bool, true, false, List, [], ◌∷◌, ◌++◌, Option, None, Some, Result, Ok, Err}
use Rattle.tsd_base.specs.Points.{DataPoint, point_of}
use Rattle.tsd_base.specs.declared.points.PointFault.{PointFault}
use Rattle.tsd_base.specs.declared.points.PointFault.TheVariants as point
use Rattle.tsd_base.specs.declared.kinds.Kind.{Kind}
use Rattle.tsd_hooks.specs.declared.name_patterns.Patterns.{Patterns}
use Rattle.cell_model.specs.declared.answers.RowsFault.{RowsFault}
use Rattle.cell_model.specs.declared.answers.RowsFault.TheVariants as rows
use Rattle.cell_model.specs.declared.answers.Stored.{Stored}
use Rattle.cell_model.specs.Deeds.{Since, deeds}
use Rattle.cell_model.specs.History.{History, base_of, first}
use Rattle.cell_model.specs.IdRows.{id_of}
use Rattle.cell_model.specs.Layout.{names_of}
use Rattle.cell_model.specs.Seen.{Seen, InEach, IsPossible}
use Rattle.uid_table.specs.IdAnswers.{answered_id, assign_fault}
use Rattle.uid_table.specs.IdSteps.{AssignMade}
use Rattle.uid_table.specs.declared.id_answers.Assigned.{Assigned}
use Rattle.uid_table.specs.declared.id_answers.AssignFault.{AssignFault}
use Rattle.uid_table.specs.declared.id_answers.AssignFault.TheVariants as assign
use Rattle.point_put.specs.Admissions.{Admission, admission}
use Rattle.point_put.specs.PutFaults.{put_fault}
use Rattle.point_put.specs.PutPoint.{PointAsked, PutSays}
use Rattle.point_put.specs.declared.config.Config.{Config}
use Rattle.point_put.specs.declared.fault.PutFault.{PutFault}
use Rattle.point_put.specs.declared.fault.PutFault.TheVariants as put
use Rattle.point_import.specs.declared.import_point.TextOutcome.{TextOutcome}
use Rattle.point_import.specs.declared.import_point.TextOutcome.TheVariants.{Taken, Full, Unread}

-- ---- who may get an id

-- names of each kind are given ids, and each point gets a cell of its own
abbrev pub open_config : Config
open_config = record { auto_metric = true; auto_tag_key = true; auto_tag_value = true; appends = false }

-- there is no pattern, so each name is allowed
abbrev pub no_patterns : Patterns
no_patterns = record { metric = None; tag_key = None; tag_value = None }

abbrev pub open_to : Patterns → Admission
open_to patterns = admission open_config patterns

-- ---- names

-- between two lengths the caller asked for the id of the name, which it has then
pub record WasNamed (patterns : Patterns) (h : History) (caller n n2 : ℕ) (kind : Kind) (name : List ℕ) : Type 0 where
  pub answer : Assigned
  pub made : AssignMade (base_of h).widths patterns kind name (Ok answer) (deeds h caller n n2)
  pub has : id_of (first n2 h) kind name ≡ Some (answered_id answer)

-- one name was asked after the other, from one length on to another
pub data WereNamed (patterns : Patterns) (h : History) (caller n : ℕ) : List (Kind × List ℕ) → ℕ → Type 0 where
  start : WereNamed patterns h caller n [] n
  then_named : {names : List (Kind × List ℕ)} {e e2 : ℕ} (kind : Kind) (name : List ℕ) → WereNamed patterns h caller n names e → e ≤ e2 → WasNamed patterns h caller e e2 kind name
      → WereNamed patterns h caller n (names ++ (kind, name) ∷ []) e2

-- the names before one of them were asked, and asking for that one had this fault
pub record StopsAt (patterns : Patterns) (h : History) (caller n n2 : ℕ) (names : List (Kind × List ℕ)) (fault : AssignFault) : Type 0 where
  pub before : List (Kind × List ℕ)
  pub kind : Kind
  pub name : List ℕ
  pub behind : List (Kind × List ℕ)
  pub names_are : names ≡ before ++ (kind, name) ∷ behind
  pub last : ℕ
  pub named : WereNamed patterns h caller n before last
  pub in_range : last ≤ n2
  pub made : AssignMade (base_of h).widths patterns kind name (Err fault) (deeds h caller last n2)

-- all names were asked, or there is no id left for one of this kind, or a step had this fault
abbrev pub NamesMade : Patterns → History → ℕ → ℕ → ℕ → List (Kind × List ℕ) → Result (Option Kind) RowsFault → Type 0
NamesMade patterns h caller n n2 names (Ok None) = WereNamed patterns h caller n names n2
NamesMade patterns h caller n n2 names (Ok (Some kind)) = StopsAt patterns h caller n n2 names (assign.Exhausted kind)
NamesMade patterns h caller n n2 names (Err fault) = StopsAt patterns h caller n n2 names (assign_fault fault)

pub record Names (patterns : Patterns) (old : Seen) (names : List (Kind × List ℕ)) (result : Result (Option Kind) RowsFault) (new : Seen) : Type 0 where
  pub since : Since old new
  pub made : InEach new (λ h. NamesMade patterns h old.caller old.length new.length names result)

-- where all names were asked, some lawful history fits what was seen
abbrev pub PossibleIfNamed : Result (Option Kind) RowsFault → Seen → Type 0
PossibleIfNamed (Ok None) s = IsPossible s
PossibleIfNamed (Ok (Some kind)) s = Unit {0}
PossibleIfNamed (Err fault) s = Unit {0}

-- ---- points

-- all names of the point were asked, and then its put was asked with this answer
pub record AskedPut (patterns : Patterns) (h : History) (caller n n2 : ℕ) (p : DataPoint) (answer : Result Stored PutFault) : Type 0 where
  pub last : ℕ
  pub named : WereNamed patterns h caller n (names_of p) last
  pub in_range : last ≤ n2
  pub asked : PointAsked (open_to patterns) p (first n2 h) (deeds h caller last n2) answer

-- the point was put
abbrev pub WasPut : Patterns → History → ℕ → ℕ → ℕ → DataPoint → Type 0
WasPut patterns h caller n n2 p = (stored : Stored) × AskedPut patterns h caller n n2 p (Ok stored)

-- it was put, or there is no id left for one of its names, or a step had this fault
abbrev pub PointMade : Patterns → History → ℕ → ℕ → ℕ → DataPoint → Result (Option Kind) RowsFault → Type 0
PointMade patterns h caller n n2 p (Ok None) = WasPut patterns h caller n n2 p
PointMade patterns h caller n n2 p (Ok (Some kind)) = StopsAt patterns h caller n n2 (names_of p) (assign.Exhausted kind) ⊎ AskedPut patterns h caller n n2 p (Err (put.Exhausted kind))
PointMade patterns h caller n n2 p (Err fault) = StopsAt patterns h caller n n2 (names_of p) (assign_fault fault) ⊎ AskedPut patterns h caller n n2 p (Err (put_fault fault))

pub record PutsPoint (patterns : Patterns) (p : DataPoint) (old : Seen) (result : Result (Option Kind) RowsFault) (new : Seen) : Type 0 where
  pub since : Since old new
  pub made : InEach new (λ h. PointMade patterns h old.caller old.length new.length p result)

-- what a put of a point whose names have ids says
abbrev pub SaysPut : Patterns → DataPoint → Seen → Result (Option Kind) RowsFault → Seen → Type 0
SaysPut patterns p old (Ok None) new = (stored : Stored) × PutSays (open_to patterns) p old (Ok stored) new
SaysPut patterns p old (Ok (Some kind)) new = PutSays (open_to patterns) p old (Err (put.Exhausted kind)) new
SaysPut patterns p old (Err fault) new = PutSays (open_to patterns) p old (Err (put_fault fault)) new

-- the fault isn't that a name is unknown or filtered
abbrev pub IsFaultOfOpen : PutFault → Type 0
IsFaultOfOpen (put.Unknown kind name) = ⊥
IsFaultOfOpen (put.Filtered kind name) = ⊥
IsFaultOfOpen (put.Exhausted kind) = Unit {0}
IsFaultOfOpen put.OutOfMemory = Unit {0}
IsFaultOfOpen put.Stopped = Unit {0}

-- the fault is one of a step
abbrev pub IsFaultOfRows : PutFault → Type 0
IsFaultOfRows (put.Unknown kind name) = ⊥
IsFaultOfRows (put.Filtered kind name) = ⊥
IsFaultOfRows (put.Exhausted kind) = ⊥
IsFaultOfRows put.OutOfMemory = Unit {0}
IsFaultOfRows put.Stopped = Unit {0}

-- a fault, and how it is told
abbrev pub TellsFault : PutFault → Result (Option Kind) RowsFault → Type 0
TellsFault fault (Ok None) = ⊥
TellsFault fault (Ok (Some kind)) = fault ≡ put.Exhausted kind
TellsFault fault (Err told) = fault ≡ put_fault told

-- ---- texts

-- there was no memory for the point
abbrev pub is_memory : PointFault → Bool
is_memory point.OutOfMemory = true
is_memory _ = false

-- a fault of reading a text, and how it is told: want of memory is no refusal
abbrev pub TellsUnread : PointFault → Result TextOutcome RowsFault → Type 0
TellsUnread fault (Ok Taken) = ⊥
TellsUnread fault (Ok (Full kind)) = ⊥
TellsUnread fault (Ok (Unread told)) = (told ≡ fault) × (is_memory fault ≡ false)
TellsUnread fault (Err told) = told ≡ rows.OutOfMemory

-- what became of a text that isn't blank, by the entries made for it
abbrev pub TextMade : Patterns → History → ℕ → ℕ → ℕ → List ℕ → Result TextOutcome RowsFault → Type 0
TextMade patterns h caller n n2 text (Ok Taken) = (p : DataPoint) × (point_of text ≡ Ok p) × PointMade patterns h caller n n2 p (Ok None)
TextMade patterns h caller n n2 text (Ok (Full kind)) = (p : DataPoint) × (point_of text ≡ Ok p) × PointMade patterns h caller n n2 p (Ok (Some kind))
TextMade patterns h caller n n2 text (Ok (Unread fault)) = (point_of text ≡ Err fault) × (deeds h caller n n2 ≡ [])
TextMade patterns h caller n n2 text (Err fault) = (deeds h caller n n2 ≡ []) ⊎ ((p : DataPoint) × (point_of text ≡ Ok p) × PointMade patterns h caller n n2 p (Err fault))

pub record PutsText (patterns : Patterns) (text : List ℕ) (old : Seen) (result : Result TextOutcome RowsFault) (new : Seen) : Type 0 where
  pub since : Since old new
  pub made : InEach new (λ h. TextMade patterns h old.caller old.length new.length text result)
