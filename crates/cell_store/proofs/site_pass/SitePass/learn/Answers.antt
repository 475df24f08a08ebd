use Rattle.std.proofs.Common.{◌∙◌}
use Rattle.region_locks.proofs.CallerLemmas.{caller_learned, possible}
use Rattle.cell_store.proofs.site_pass.SitePass.learn.Goals as goal

pub invariant_of-self : goal.invariant_of-self
invariant_of-self g c =
    let i = c.self.invariant in let l = c.learn.ensures in
    (l.counter ∙ i.0, (caller_learned g.J.StepNames.name _ _ _ i.1 l.view l.up l.live).0)

pub returns-clause-waited : goal.returns-clause-waited
returns-clause-waited g c =
    let i = c.self.invariant in let l = c.learn.ensures in
    rw (← c.self.view_is) (caller_learned g.J.StepNames.name _ _ _ i.1 l.view l.up l.live).1

pub returns-clause-possible : goal.returns-clause-possible
returns-clause-possible g c =
    let i = c.self.invariant in let l = c.learn.ensures in
    possible g.J.StepNames.name _ (caller_learned g.J.StepNames.name _ _ _ i.1 l.view l.up l.live).0
