-- How many entries a put makes.
use Rattle.std.specs.Prelude.{List, Result}
use Rattle.tsd_base.specs.Points.{DataPoint}
use Rattle.cell_model.specs.declared.answers.Stored.{Stored}
use Rattle.cell_model.specs.declared.events.Placed.{Placed}
use Rattle.cell_model.specs.History.{History}
use Rattle.point_put.specs.declared.fault.PutFault.{PutFault}
use Rattle.point_put.specs.Admissions.{Admission}
use Rattle.point_put.specs.PutPoint.{PointAsked}
use Rattle.point_put.specs.TextPuts.{IsFewFor}

-- the entries by which a point was asked are few
abbrev pub PutsMakeFewEntries : Type 0
PutsMakeFewEntries = (c : Admission) (point : DataPoint) (h : History) (own : List Placed) (outcome : Result Stored PutFault) → PointAsked c point h own outcome → IsFewFor point own
