use Rattle.region_locks.proofs.JoinedEnds.{closed_site}
use Rattle.region_locks.proofs.site_locks.SiteLocks.close.Goals as goal

pub returns-clause-closed : goal.returns-clause-closed
returns-clause-closed g c = closed_site g.J.StepNames.name _ _ _ _ _ _ _ _ _ _ _ _ c.close.ensures.closed c.close-2.ensures.closed c.close-3.ensures.closed c.close-4.ensures.closed c.close-5.ensures.closed
