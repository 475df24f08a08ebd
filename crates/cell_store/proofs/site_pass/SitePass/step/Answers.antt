use Rattle.region_locks.proofs.CallerLemmas.{possible}
use Rattle.cell_store.proofs.StepsMade.{failed_waited}
use Rattle.cell_store.proofs.site_pass.SitePass.step.Goals as goal

pub returns-clause-possible : goal.returns-clause-possible
returns-clause-possible g c = possible g.J.StepNames.name _ c.run.ensures.run.caller

pub returns-clause-err : goal.returns-clause-err
returns-clause-err g c = rw (← c.self.view_is) (failed_waited g.J.StepNames.counter g.J.StepNames.name _ _ _ _ c.run.ensures.run)
