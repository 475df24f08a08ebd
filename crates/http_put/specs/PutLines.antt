-- What the elements of a body that are put by their lines are answered.
use Rattle.std.specs.Prelude.{◌≡◌, ℕ, List, [], ◌∷◌, ◌++◌, Option, Some, Ok, Vec}
use Rattle.std.specs.declared.alloc.Global.{Global}
use Rattle.serde_json.specs.Data.{Data, array}
use Rattle.serde_json.specs.View.{items_of}
use Rattle.tsd_base.specs.Points.{DataPoint, point_of}
use Rattle.cell_model.specs.declared.answers.Stored.{Stored}
use Rattle.cell_model.specs.Seen.{Seen}
use Rattle.cell_model.specs.Deeds.{Made}
use Rattle.point_put.specs.Admissions.{Admission}
use Rattle.point_put.specs.declared.fault.PutFault.{PutFault}
use Rattle.point_put.specs.declared.fault.TextFault.{TextFault}
use Rattle.point_put.specs.declared.fault.TextFault.TheVariants.{Unput, Unread}
use Rattle.http_requests.specs.JsonBodies.{json_of}
use Rattle.put_bodies.specs.BodyLines.{AreLinesOf}
use Rattle.http_put.specs.PutElements.{ElementsBegun, ElementsPut, text_of, texts_of}
use Rattle.http_put.specs.PutOneElement.{ElementBegun, ElementPut, PointBegun, PointPut, RefusedPoint}
use Rattle.http_put.specs.declared.put_lines.Turn.{Turn}
use Rattle.http_put.specs.declared.put_lines.Turn.TheVariants.{Told, Other, End}

-- the body is the list of these elements
abbrev pub IsListOf : List ℕ → List Data → Type 0
IsListOf body elements = json_of body ≡ Some (array (items_of elements))

-- the body is a list of elements, which were put
abbrev pub ListPut : Admission → List ℕ → Seen → List Stored → List (Option (Vec ℕ Global)) → Seen → List Stored → Type 0
ListPut c body old before outs new after = (elements : List Data) × IsListOf body elements × ElementsPut c elements old before (texts_of outs) new after

-- the body is a list of elements, of which some were put
abbrev pub ListBegun : Admission → List ℕ → Seen → List Stored → Seen → List Stored → Type 0
ListBegun c body old before new after = (elements : List Data) × IsListOf body elements × ElementsBegun c elements old before new after

-- the line has a point, of which this is told; or it has none, and no entry was made
abbrev pub LinePut : Admission → List ℕ → Seen → List Stored → Turn → Seen → List Stored → Type 0
LinePut c line old before (Told out) new after = (point : DataPoint) × (point_of line ≡ Ok point) × PointPut c point old before (text_of out) new after
LinePut c line old before Other new after = Made old [] new × (after ≡ before)
LinePut c line old before End new after = ⊥

-- the line has a point, whose put was begun
abbrev pub LineBegun : Admission → List ℕ → Seen → Seen → Type 0
LineBegun c line old new = (point : DataPoint) × (point_of line ≡ Ok point) × PointBegun c point old new

-- the next element was put; or it has no line, and no entry was made; or there is none
abbrev pub TurnMade : Admission → List Data → Seen → List Stored → Turn → List (List ℕ) → Seen → List Stored → Type 0
TurnMade c elements old before (Told out) ahead new after = (d : Data) × (rest : List Data) × (elements ≡ d ∷ rest) × AreLinesOf ahead rest × ElementPut c d old before (text_of out) new after
TurnMade c elements old before Other ahead new after = (d : Data) × (rest : List Data) × (elements ≡ d ∷ rest) × Made old [] new × (after ≡ before)
TurnMade c elements old before End ahead new after = (elements ≡ []) × (new ≡ old) × (after ≡ before)

-- the put of the next element was begun
abbrev pub TurnBegun : Admission → List Data → Seen → Seen → Type 0
TurnBegun c elements old new = (d : Data) × (rest : List Data) × (elements ≡ d ∷ rest) × ElementBegun c d old new

-- the elements behind the first ones were put, and what is told of them stands behind what was told before
pub record RestPut (c : Admission) (rest : List Data) (old : Seen) (before : List Stored) (told : List (Option (Vec ℕ Global))) (outs : List (Option (Vec ℕ Global))) (new : Seen) (after : List Stored) : Type 0 where
  pub more : List (Option (Vec ℕ Global))
  pub all : outs ≡ told ++ more
  pub put : ElementsPut c rest old before (texts_of more) new after

-- an element was asked
abbrev pub IsTold : Turn → Type 0
IsTold (Told out) = Unit {0}
IsTold Other = ⊥
IsTold End = ⊥

-- the text of a refusal is told
abbrev pub IsRefusal : PutFault → Turn → Type 0
IsRefusal fault (Told out) = RefusedPoint fault (text_of out)
IsRefusal fault Other = ⊥
IsRefusal fault End = ⊥

-- a line that has no point isn't told of, and of one that has one the refusal is
abbrev pub IsDenial : TextFault → Turn → Type 0
IsDenial (Unread fault) turn = turn ≡ Other
IsDenial (Unput fault) turn = IsRefusal fault turn

-- the line has a point
abbrev pub IsUnput : TextFault → Type 0
IsUnput (Unput fault) = Unit {0}
IsUnput (Unread fault) = ⊥
