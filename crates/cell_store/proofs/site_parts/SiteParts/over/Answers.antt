use Rattle.std.proofs.Common.{rules, ap}
use Rattle.step_count.specs.declared.view.View.{View}
use Rattle.step_count.specs.FirstViews.{name_in}
use Rattle.region_locks.proofs.CallerLemmas.{all_unopened, opener_first}
use Rattle.cell_store.proofs.site_parts.SiteParts.over.Goals as goal

pub invariant_of-result : goal.invariant_of-result
invariant_of-result g c =
    let s = c.split-regions.ensures in let m = c.in_ok-steps.ensures in
    let a = all_unopened _ _ _ _ _ _ _ _ s.complete s.parts c.requires.store (search rules) (ap (λ (v : View). name_in v.named) m.opener) m.counter m.views in
    let o = opener_first _ 0 _ m.opener in
    (a.0, a.1, a.2, a.3, search rules, search rules, search rules, o.0, o.1)
