use Rattle.region_locks.proofs.CallerLemmas.{different_as}
use Rattle.cell_store.proofs.site_pass.SitePass.part.Goals as goal

pub returns-clause-different : goal.returns-clause-different
returns-clause-different g c = different_as g.J.StepNames.name _ _ c.self.invariant.1 c.self.view_is
