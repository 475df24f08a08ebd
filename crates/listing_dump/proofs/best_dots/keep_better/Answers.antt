use Rattle.std.proofs.Common.{cond, ap, rules, ◌∙◌}
use Rattle.std.specs.Prelude.{FitsSigned, Some}
use Rattle.std.specs.Int.{w64}
use Rattle.std.specs.BTreeMap.{get}
use Rattle.std.specs.Ordering.{eq_by_cmp}
use Rattle.std.proofs.lemmas.Int.{to_z-of_z}
use Rattle.listing_dump.specs.BestDots.{value_cmp}
use Rattle.listing_dump.proofs.Bests.{match_false, match_true, now_best}
use Rattle.listing_dump.proofs.best_dots.keep_better.Goals as goal

pub returns-then-has_as_good : goal.returns-then-has_as_good
returns-then-has_as_good c = λ dots n are. match_true _ _ c.has_as_good.result c.if-has_as_good.true (c.has_as_good.ensures dots are)

pub returns : goal.returns
returns c =
    let value = c.args.dot.value in
    let fits : FitsSigned w64 value = search rules in
    λ dots n are.
    now_best dots c.args.dot c.args.best.now are c.insert.new.self c.args.place n (match_false _ _ c.has_as_good.result c.if-has_as_good.false (c.has_as_good.ensures dots are))
    (λ q.
    c.in_ok-insert.ensures.updates.0 q
    ∙ ap (λ v. cond (eq_by_cmp value_cmp (c.args.dot.item.offset, v) q) (Some (record { place = c.args.place; dot = c.args.dot })) (get value_cmp c.args.best.now q)) (to_z-of_z w64 value fits))
