use Rattle.std.proofs.Common.{◌≤◌, subst}
use Rattle.region_locks.proofs.CallerLemmas.{ends, opened_all}
use Rattle.cell_store.proofs.site.Site.end.Goals as goal

pub joined-requires : goal.joined-requires
joined-requires g c =
    let i = c.self.invariant in let l = c.learn.ensures in let o = c.close.ensures in
    let all = opened_all g.J.StepNames.name _ _ _ _ _ _ _ _ _ (subst (λ d. 1 ≤ d) i.0 i.1) (subst (λ d. d ≤ 16) i.0 i.2) c.requires.caller o.opener o.numbers c.take.ensures.view c.close-2.ensures.closed i.3 l.view l.up l.live in
    record { complete = (_, _, all.complete) }

pub returns : goal.returns
returns g c =
    let i = c.self.invariant in let l = c.learn.ensures in let o = c.close.ensures in
    let all = opened_all g.J.StepNames.name _ _ _ _ _ _ _ _ _ (subst (λ d. 1 ≤ d) i.0 i.1) (subst (λ d. d ≤ 16) i.0 i.2) c.requires.caller o.opener o.numbers c.take.ensures.view c.close-2.ensures.closed i.3 l.view l.up l.live in
    ends g.J.StepNames.name _ _ _ _ all (c.joined.ensures.data_regions _ _ all.complete) (c.joined.ensures.widths _ _ all.complete) c.joined.ensures.parts
