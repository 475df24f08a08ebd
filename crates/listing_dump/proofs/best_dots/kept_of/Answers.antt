use Rattle.std.proofs.Common.{◌∙◌, ap, rules}
use Rattle.std.specs.Prelude.{FitsSigned}
use Rattle.std.specs.Int.{w64}
use Rattle.std.specs.BTreeMap.{get}
use Rattle.std.proofs.lemmas.Int.{to_z-of_z}
use Rattle.listing_dump.specs.BestDots.{value_cmp}
use Rattle.listing_dump.proofs.best_dots.kept_of.Goals as goal

pub returns-in-Some : goal.returns-in-Some
returns-in-Some c =
    let value = c.args.dot.now.value in
    let fits : FitsSigned w64 value = search rules in
    c.in-Some.ensures.value ∙ ap (λ v. get value_cmp c.args.best.now (c.args.dot.now.item.offset, v)) (to_z-of_z w64 value fits)

pub returns-in-None : goal.returns-in-None
returns-in-None c =
    let value = c.args.dot.now.value in
    let fits : FitsSigned w64 value = search rules in
    c.in-None.ensures.value ∙ ap (λ v. get value_cmp c.args.best.now (c.args.dot.now.item.offset, v)) (to_z-of_z w64 value fits)
