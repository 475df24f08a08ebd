-- What the put of one element makes.
use Rattle.std.specs.Prelude.{◌≡◌, List, Some, Ok}
use Rattle.serde_json.specs.Data.{Data}
use Rattle.tsd_base.specs.Points.{DataPoint}
use Rattle.cell_model.specs.declared.answers.Stored.{Stored}
use Rattle.cell_model.specs.declared.events.Placed.{Placed}
use Rattle.cell_model.specs.History.{History, first}
use Rattle.cell_model.specs.Seen.{Seen, InEach}
use Rattle.cell_model.specs.Deeds.{Made}
use Rattle.point_put.specs.Admissions.{Admission}
use Rattle.compactor.specs.Queues.{HasRows}
use Rattle.json_points.specs.declared.fault.ElementFault.{ElementFault}
use Rattle.json_points.specs.declared.fault.ElementFault.TheVariants.{OutOfMemory}
use Rattle.json_points.specs.Elements.{element_of}
use Rattle.json_points.specs.ElementFaults.{element_fault_text}
use Rattle.http_put.specs.PutElements.{Outcome, ReadAsked, ReadBegun}
pub use Rattle.http_put.specs.PutElements.{RefusedPoint}

-- the text that is told of an element that doesn't read
abbrev pub RefusedElement : ElementFault → Outcome → Type 0
RefusedElement OutOfMemory outcome = ⊥
RefusedElement fault outcome = outcome ≡ Some (element_fault_text fault)

-- the caller made these entries and no other, of which this holds, and the queue got these rows
pub record AskedSo (P : History → List Placed → List Stored → Type 0) (old : Seen) (before : List Stored) (new : Seen) (after : List Stored) : Type 0 where
  pub own : List Placed
  pub stored : List Stored
  pub made : Made old own new
  pub asked : InEach new (λ h. P (first new.length h) own stored)
  pub rows : HasRows before stored after

abbrev pub ElementPut : Admission → Data → Seen → List Stored → Outcome → Seen → List Stored → Type 0
ElementPut c d old before outcome new after = AskedSo (λ h own stored. ReadAsked c (element_of d) h own outcome stored) old before new after

abbrev pub PointPut : Admission → DataPoint → Seen → List Stored → Outcome → Seen → List Stored → Type 0
PointPut c point old before outcome new after = AskedSo (λ h own stored. ReadAsked c (Ok point) h own outcome stored) old before new after

-- the caller made these entries and no other, of which this holds
pub record BegunSo (P : History → List Placed → Type 0) (old new : Seen) : Type 0 where
  pub own : List Placed
  pub made : Made old own new
  pub begun : InEach new (λ h. P (first new.length h) own)

abbrev pub ElementBegun : Admission → Data → Seen → Seen → Type 0
ElementBegun c d old new = BegunSo (ReadBegun c (element_of d)) old new

abbrev pub PointBegun : Admission → DataPoint → Seen → Seen → Type 0
PointBegun c point old new = BegunSo (ReadBegun c (Ok point)) old new
