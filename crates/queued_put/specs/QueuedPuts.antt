-- What is said of a point that was put, and of the queue of rows.
use Rattle.std.specs.Prelude.{Bool, List, [], ◌∷◌, Result, Ok, Err}
use Rattle.tsd_base.specs.Points.{DataPoint}
use Rattle.cell_model.specs.declared.answers.Stored.{Stored}
use Rattle.cell_model.specs.Seen.{Seen}
use Rattle.compactor.specs.Queues.{AddMade, HasRows}
use Rattle.point_put.specs.Admissions.{Admission}
use Rattle.point_put.specs.declared.fault.PutFault.{PutFault}
use Rattle.point_put.specs.declared.fault.PutFault.TheVariants.{OutOfMemory}
use Rattle.point_put.specs.PutPoint.{PutSays}

-- the row was added, or was there
abbrev pub WasAdded : List Stored → Stored → List Stored → Type 0
WasAdded before stored after = (added : Bool) × AddMade before stored added after

-- the point was accepted, and the queue got its row
pub record PutsQueued (c : Admission) (point : DataPoint) (old : Seen) (before : List Stored) (new : Seen) (after : List Stored) : Type 0 where
  pub stored : Stored
  pub says : PutSays c point old (Ok stored) new
  pub rows : HasRows before (stored ∷ []) after

-- The point was asked, and this fault came of it. Of want of memory nothing more is told: the point may have been accepted, and its row found none in the queue.
abbrev pub FailsQueued : Admission → DataPoint → Seen → PutFault → Seen → Type 0
FailsQueued c point old OutOfMemory new = (outcome : Result Stored PutFault) × PutSays c point old outcome new
FailsQueued c point old fault new = PutSays c point old (Err fault) new
