use Rattle.region_locks.proofs.JoinedEnds.{closed_five}
use Rattle.region_locks.proofs.five_locks.FiveLocks.close.Goals as goal

pub returns-clause-closed : goal.returns-clause-closed
returns-clause-closed g c = closed_five g.J.StepNames.name _ _ _ _ _ _ _ _ _ _ _ _ _ _ _ _ _ c.requires.order c.close.ensures.closed c.close-2.ensures.closed c.close-3.ensures.closed c.close-4.ensures.closed c.close-5.ensures.closed
