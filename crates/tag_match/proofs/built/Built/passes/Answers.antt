use Rattle.std.proofs.Common.{◌≡◌, ◌∙◌, false, sym, ap, map}
use Rattle.group_by.specs.TagFilters.{passes_filter}
use Rattle.tag_match.specs.Patterns.{finds, passes}
use Rattle.tag_match.proofs.Places.{one_fails}
use Rattle.tag_match.proofs.built.Built.passes.Goals as goal

pub returns-then-not-passes_one : goal.returns-then-not-passes_one
returns-then-not-passes_one c =
    let one : passes_filter finds c.one-item.result.filter.now c.args.tags.now ≡ false = (λ i. passes_filter finds (sym (c.in_ok-judge.ensures {u = tt}) i) (sym c.pairs.ensures.pairs i)) ∙ sym c.passes_one.ensures.passes ∙ c.if-not-passes_one.true in
    sym ((λ i. passes (sym c.self.view_is i) c.args.tags.now) ∙ (λ i. passes (map (λ x. x.filter.now) (sym c.deref-one-items.ensures.value i)) c.args.tags.now)
    ∙ one_fails (λ f. passes_filter finds f c.args.tags.now) (λ x. x.filter.now) c.deref-one-items.result.now c.loop-one.one-index c.one-item.result c.loop-one-test.true (ap (λ x. passes_filter finds x.filter.now c.args.tags.now) (sym c.one-item.is) ∙ one))
