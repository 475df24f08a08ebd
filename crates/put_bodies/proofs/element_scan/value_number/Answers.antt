use Rattle.std.proofs.Common.{rules, ◌≡◌, [], ◌∷◌, subst, sym}
use Rattle.put_bodies.specs.ElementParts.{IsValueWord}
use Rattle.put_bodies.proofs.PartWords.{fraction_as_value, integer_as_value}
use Rattle.put_bodies.proofs.element_scan.value_number.Goals as goal

pub returns-in-Whole : goal.returns-in-Whole
returns-in-Whole c j of = integer_as_value c.args.kind c.args.text.now j c.in-Whole.is of

pub returns-in-Fraction : goal.returns-in-Fraction
returns-in-Fraction c j of =
    let is : c.as_slice.result.now ≡ 48 ∷ 46 ∷ [] = search rules in
    subst (IsValueWord j) (sym is) (fraction_as_value c.args.kind c.args.text.now j c.in-Fraction.is of)
