use Rattle.std.proofs.Common.{◌∙◌, refl}
use Rattle.region_locks.proofs.CallerLemmas.{absorbed_made, caller_absorbed, extends_from, made_from, numbers_as, possible}
use Rattle.cell_store.proofs.site_pass.SitePass.absorb.Goals as goal

pub invariant_of-self : goal.invariant_of-self
invariant_of-self g c =
    let i = c.self.invariant in let o = c.part.ensures in let m = c.absorb_all.ensures in
    (m.counter ∙ i.0, (caller_absorbed g.J.StepNames.name _ _ _ _ _ i.1 o.caller refl m.view m.up m.live).0)

pub returns-clause-mine : goal.returns-clause-mine
returns-clause-mine g c =
    let i = c.self.invariant in let o = c.part.ensures in let m = c.absorb_all.ensures in
    rw (← c.self.view_is) (caller_absorbed g.J.StepNames.name _ _ _ _ _ i.1 o.caller refl m.view m.up m.live).1

pub returns-clause-theirs : goal.returns-clause-theirs
returns-clause-theirs g c =
    let i = c.self.invariant in let o = c.part.ensures in let m = c.absorb_all.ensures in
    extends_from _ _ _ o.seen (caller_absorbed g.J.StepNames.name _ _ _ _ _ i.1 o.caller refl m.view m.up m.live).2

pub returns-clause-caller : goal.returns-clause-caller
returns-clause-caller g c =
    let i = c.self.invariant in let o = c.part.ensures in let m = c.absorb_all.ensures in
    rw (← c.self.view_is) (caller_absorbed g.J.StepNames.name _ _ _ _ _ i.1 o.caller refl m.view m.up m.live).3

pub returns-clause-possible : goal.returns-clause-possible
returns-clause-possible g c =
    let i = c.self.invariant in let o = c.part.ensures in let m = c.absorb_all.ensures in
    possible g.J.StepNames.name _ (caller_absorbed g.J.StepNames.name _ _ _ _ _ i.1 o.caller refl m.view m.up m.live).0

pub returns-clause-numbers : goal.returns-clause-numbers
returns-clause-numbers g c =
    let i = c.self.invariant in let o = c.part.ensures in let m = c.absorb_all.ensures in
    numbers_as _ _ _ _ _ c.self.view_is o.seen (caller_absorbed g.J.StepNames.name _ _ _ _ _ i.1 o.caller refl m.view m.up m.live).4.numbers

pub returns-clause-different : goal.returns-clause-different
returns-clause-different g c =
    let i = c.self.invariant in let o = c.part.ensures in let m = c.absorb_all.ensures in
    (caller_absorbed g.J.StepNames.name _ _ _ _ _ i.1 o.caller refl m.view m.up m.live).4.different

pub returns-clause-mine_made : goal.returns-clause-mine_made
returns-clause-mine_made g c =
    let i = c.self.invariant in let o = c.part.ensures in let m = c.absorb_all.ensures in
    made_from _ _ _ c.self.view_is (absorbed_made g.J.StepNames.name _ _ _ _ _ i.1 o.caller refl m.view m.up m.live).0

pub returns-clause-theirs_made : goal.returns-clause-theirs_made
returns-clause-theirs_made g c =
    let i = c.self.invariant in let o = c.part.ensures in let m = c.absorb_all.ensures in
    made_from _ _ _ o.seen (absorbed_made g.J.StepNames.name _ _ _ _ _ i.1 o.caller refl m.view m.up m.live).1
