use Rattle.std.proofs.Common.{◌∙◌, ◌++◌, ◌∷◌, [], sym, subst}
use Rattle.cell_model.specs.Seen.{IsPossible}
use Rattle.region_locks.specs.CallerViews.{SawOpeningsAlone}
use Rattle.region_locks.proofs.CallerLemmas.{did_open, possible}
use Rattle.cell_store.proofs.site.Site.open_pass.Goals as goal

pub invariant_of-openings-2 : goal.invariant_of-openings-2
invariant_of-openings-2 g c =
    let e = c.in_ok-pass.ensures in let o = e.opened in
    (e.steps_counter ∙ c.openings.invariant.0, (did_open g.J.StepNames.name _ _ _ o.0 c.openings.invariant.1 o.1 o.2 e.live).opener_is)

pub returns-clause-possible : goal.returns-clause-possible
returns-clause-possible g c =
    let e = c.in_ok-pass.ensures in let o = e.opened in
    subst IsPossible (sym c.of.ensures) (possible g.J.StepNames.name _ (did_open g.J.StepNames.name _ _ _ o.0 c.openings.invariant.1 o.1 o.2 e.live).has.caller)

pub returns-clause-alone : goal.returns-clause-alone
returns-clause-alone g c =
    let e = c.in_ok-pass.ensures in let o = e.opened in
    subst SawOpeningsAlone (sym c.of.ensures) (did_open g.J.StepNames.name _ _ _ o.0 c.openings.invariant.1 o.1 o.2 e.live).has.alone

pub returns-clause-one : goal.returns-clause-one
returns-clause-one g c =
    let e = c.in_ok-pass.ensures in let o = e.opened in
    (did_open g.J.StepNames.name _ _ _ o.0 c.openings.invariant.1 o.1 o.2 e.live).numbers ∙ (λ i. c.openings.view_is i ++ (sym c.of.ensures i).caller ∷ [])
