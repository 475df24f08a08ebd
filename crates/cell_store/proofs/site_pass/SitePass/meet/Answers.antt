use Rattle.std.proofs.Common.{◌∙◌}
use Rattle.region_locks.proofs.CallerLemmas.{caller_met, possible}
use Rattle.cell_store.proofs.site_pass.SitePass.meet.Goals as goal

pub invariant_of-self : goal.invariant_of-self
invariant_of-self g c =
    let i = c.self.invariant in let m = c.meet.ensures in let l = c.learn.ensures in
    (l.counter ∙ m.counter ∙ i.0, (caller_met g.J.StepNames.name _ _ _ _ _ i.1 c.requires.note m.view l.view l.up l.live).0)

pub returns-clause-waited : goal.returns-clause-waited
returns-clause-waited g c =
    let i = c.self.invariant in let m = c.meet.ensures in let l = c.learn.ensures in
    rw (← c.self.view_is) (caller_met g.J.StepNames.name _ _ _ _ _ i.1 c.requires.note m.view l.view l.up l.live).1

pub returns-clause-heard : goal.returns-clause-heard
returns-clause-heard g c =
    let i = c.self.invariant in let m = c.meet.ensures in let l = c.learn.ensures in
    (caller_met g.J.StepNames.name _ _ _ _ _ i.1 c.requires.note m.view l.view l.up l.live).2

pub returns-clause-possible : goal.returns-clause-possible
returns-clause-possible g c =
    let i = c.self.invariant in let m = c.meet.ensures in let l = c.learn.ensures in
    possible g.J.StepNames.name _ (caller_met g.J.StepNames.name _ _ _ _ _ i.1 c.requires.note m.view l.view l.up l.live).0
