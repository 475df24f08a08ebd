use Rattle.std.proofs.Common.{◌≡◌, List, take, refl, rules, sym, subst, ◌∙◌}
use Rattle.qual_codec.specs.declared.cells.Dot.{Dot}
use Rattle.qual_codec.specs.MergeSteps.{EndsAt, EndsElsewhere}
use Rattle.qual_codec.proofs.Best.{keep_next, keep_better, keep_old}
use Rattle.qual_codec.proofs.merge.keep.Goals as goal

pub returns-in_default-clause-ok : goal.returns-in_default-clause-ok
returns-in_default-clause-ok c =
    keep_next c.args.dots.now.items _ c.args.end c.args.dot c.requires (subst (λ (l : List Dot). EndsElsewhere (take c.args.end l) c.args.dot.item.offset) c.deref.ensures.value c.in_default.ensures) refl

pub returns-then-is_as_good-clause-ok : goal.returns-then-is_as_good-clause-ok
returns-then-is_as_good-clause-ok c =
    let value : c.in-Some.last.value ≡ c.args.dot.value = search rules in
    let front = c.in-Some.ensures.0 in
    keep_better c.args.dots.now.items c.args.end c.args.dot c.in-Some.last c.requires front (subst (λ (l : List Dot). EndsAt (take c.args.end l) c.args.dot.item.offset front c.in-Some.last) c.deref.ensures.value c.in-Some.ensures.1) value _
    (sym c.is_as_good.ensures ∙ c.if-is_as_good.true) refl

pub returns-else-is_as_good-clause-ok : goal.returns-else-is_as_good-clause-ok
returns-else-is_as_good-clause-ok c =
    let value : c.in-Some.last.value ≡ c.args.dot.value = search rules in
    let front = c.in-Some.ensures.0 in
    keep_old c.args.dots.now.items c.args.end c.args.dot c.in-Some.last c.requires front (subst (λ (l : List Dot). EndsAt (take c.args.end l) c.args.dot.item.offset front c.in-Some.last) c.deref.ensures.value c.in-Some.ensures.1) value
    (sym c.is_as_good.ensures ∙ c.if-is_as_good.false)
