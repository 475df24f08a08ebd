use Rattle.std.proofs.Common.{◌∙◌, ap, pos, refl, FitsSigned, w64, rules, arith}
use Rattle.std.specs.Int.{int_min, int_max}
use Rattle.std.proofs.lemmas.Int.{to_z-of_z}
use Rattle.lerp_aggregate.proofs.Tallying.{counts_no_more, fills}
use Rattle.lerp_aggregate.proofs.tally.Tally.fill.Goals as goal

pub returns-then-self-count : goal.returns-then-self-count
returns-then-self-count c =
    let old = c.args.self.now in
    let least : FitsSigned w64 old.least = search rules in
    let greatest : FitsSigned w64 old.greatest = search rules in
    let low : FitsSigned w64 c.min-self.result = search rules in
    let high : FitsSigned w64 c.max-self.result = search rules in
    fills old _ c.args.count c.if-self-count.true refl refl
    (to_z-of_z w64 _ low ∙ c.min-self.ensures.value ∙ ap (λ z. int_min z (pos 0)) (to_z-of_z w64 _ least))
    (to_z-of_z w64 _ high ∙ c.max-self.ensures.value ∙ ap (λ z. int_max z (pos 0)) (to_z-of_z w64 _ greatest))

pub returns-else-self-count : goal.returns-else-self-count
returns-else-self-count c = counts_no_more c.args.self.now _ (omega (arith, c.if-self-count.false, c.requires.few))
