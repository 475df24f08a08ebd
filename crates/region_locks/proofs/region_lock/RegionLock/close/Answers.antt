use Rattle.region_locks.proofs.JoinedEnds.{closed_held, closed_absent}
use Rattle.region_locks.proofs.region_lock.RegionLock.close.Goals as goal

pub returns-in-Some-clause-closed : goal.returns-in-Some-clause-closed
returns-in-Some-clause-closed g c = closed_held g.J.StepNames.counter g.J.StepNames.name g.row.N _ _ _ _ _ _ _ c.in-Some.is c.part-region.ensures c.hand_over.ensures.view c.hand_over.ensures.regions

pub returns-in-None-clause-closed : goal.returns-in-None-clause-closed
returns-in-None-clause-closed g c = closed_absent g.J.StepNames.counter g.J.StepNames.name g.row.N _ _ c.part-region.result.0 _ c.in-None.is c.part-region.ensures
