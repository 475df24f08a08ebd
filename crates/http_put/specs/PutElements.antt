-- What the elements of a put are answered, over a history.
use Rattle.std.specs.Prelude.{◌≡◌, ℕ, ◌≤◌, List, [], ◌∷◌, ◌++◌, map, Option, None, Some, option_map, Result, Ok, Err, Vec}
use Rattle.std.specs.declared.alloc.Global.{Global}
use Rattle.serde_json.specs.Data.{Data}
use Rattle.tsd_base.specs.Points.{DataPoint}
use Rattle.cell_model.specs.declared.answers.Stored.{Stored}
use Rattle.cell_model.specs.declared.events.Placed.{Placed}
use Rattle.cell_model.specs.History.{History, first}
use Rattle.cell_model.specs.Seen.{Seen, InEach}
use Rattle.cell_model.specs.Deeds.{deeds}
use Rattle.point_put.specs.Admissions.{Admission}
use Rattle.point_put.specs.declared.fault.PutFault.{PutFault}
use Rattle.point_put.specs.declared.fault.PutFault.TheVariants.{OutOfMemory, Stopped}
use Rattle.point_put.specs.PutFaults.{put_fault_text}
use Rattle.point_put.specs.PutPoint.{PointAsked}
use Rattle.compactor.specs.Queues.{HasRows}
use Rattle.json_points.specs.declared.fault.ElementFault.{ElementFault}
use Rattle.json_points.specs.Elements.{element_of}
use Rattle.json_points.specs.ElementFaults.{element_fault_text}

-- none where the element was stored, else the text of its refusal
abbrev pub Outcome : Type 0
Outcome = Option (List ℕ)

-- the text that is told of a point that wasn't put
abbrev pub RefusedPoint : PutFault → Outcome → Type 0
RefusedPoint OutOfMemory outcome = ⊥
RefusedPoint Stopped outcome = ⊥
RefusedPoint fault outcome = outcome ≡ Some (put_fault_text fault)

-- what is told of an answer to a point, and the rows that it stored
abbrev pub PointTold : Result Stored PutFault → Outcome → List Stored → Type 0
PointTold (Ok row) outcome stored = (outcome ≡ None) × (stored ≡ row ∷ [])
PointTold (Err fault) outcome stored = RefusedPoint fault outcome × (stored ≡ [])

-- an element that reads is asked as a point; of one that doesn't read the fault is told, and it makes no entry
abbrev pub ReadAsked : Admission → Result DataPoint ElementFault → History → List Placed → Outcome → List Stored → Type 0
ReadAsked c (Ok point) h own outcome stored = (answer : Result Stored PutFault) × PointAsked c point h own answer × PointTold answer outcome stored
ReadAsked c (Err fault) h own outcome stored = (own ≡ []) × (outcome ≡ Some (element_fault_text fault)) × (stored ≡ [])

-- an element was asked by these entries of its caller, where the history is as long as the caller has seen it at its end
abbrev pub ElementAsked : Admission → Data → History → List Placed → Outcome → List Stored → Type 0
ElementAsked c d h own outcome stored = ReadAsked c (element_of d) h own outcome stored

-- elements were asked one after the other, from one length on to another: what is told of each, and the rows of those that were stored
pub data Ran (c : Admission) (h : History) (caller n : ℕ) : List Data → List Outcome → List Stored → ℕ → Type 0 where
  start : Ran c h caller n [] [] [] n
  then_asked : {done : List Data} {outs : List Outcome} {rows : List Stored} {e e2 : ℕ} (d : Data) (outcome : Outcome) (stored : List Stored) → Ran c h caller n done outs rows e → e ≤ e2
      → ElementAsked c d (first e2 h) (deeds h caller e e2) outcome stored → Ran c h caller n (done ++ d ∷ []) (outs ++ outcome ∷ []) (rows ++ stored) e2

-- the elements of a put were asked, each of them
abbrev pub PutRan : Admission → History → ℕ → ℕ → List Data → List Outcome → List Stored → ℕ → Type 0
PutRan c h caller n elements outs stored n2 = Ran c h caller n elements outs stored n2

-- an element was begun: it was asked, whatever came of it
abbrev pub ReadBegun : Admission → Result DataPoint ElementFault → History → List Placed → Type 0
ReadBegun c (Ok point) h own = (answer : Result Stored PutFault) × PointAsked c point h own answer
ReadBegun c (Err fault) h own = own ≡ []

-- the entries are of the first of these elements, and there are none where there is no element
abbrev pub FirstBegun : Admission → List Data → History → List Placed → Type 0
FirstBegun c [] h own = own ≡ []
FirstBegun c (d ∷ rest) h own = ReadBegun c (element_of d) h own

-- the first elements of a put were asked up to some length, and what comes later is of the next one alone
pub record PutBegun (c : Admission) (h : History) (caller n : ℕ) (elements : List Data) (stored : List Stored) (n2 : ℕ) : Type 0 where
  pub done : List Data
  pub rest : List Data
  pub outs : List Outcome
  pub last : ℕ
  pub all : elements ≡ done ++ rest
  pub ran : Ran c h caller n done outs stored last
  pub in_range : last ≤ n2
  pub begun : FirstBegun c rest (first n2 h) (deeds h caller last n2)

-- the caller asked all elements, and the queue got the rows of those that were stored
pub record ElementsPut (c : Admission) (elements : List Data) (old : Seen) (before : List Stored) (outs : List Outcome) (new : Seen) (after : List Stored) : Type 0 where
  pub stored : List Stored
  pub ran : InEach new (λ h. PutRan c h old.caller old.length elements outs stored new.length)
  pub rows : HasRows before stored after

-- the caller asked some of the elements and perhaps began the next, and the queue got the rows of those that were asked
pub record ElementsBegun (c : Admission) (elements : List Data) (old : Seen) (before : List Stored) (new : Seen) (after : List Stored) : Type 0 where
  pub stored : List Stored
  pub begun : InEach new (λ h. PutBegun c h old.caller old.length elements stored new.length)
  pub rows : HasRows before stored after

-- texts of an answer
abbrev pub text_of : Option (Vec ℕ Global) → Outcome
text_of out = option_map (λ text. text.items) out

abbrev pub texts_of : List (Option (Vec ℕ Global)) → List Outcome
texts_of outs = map text_of outs
