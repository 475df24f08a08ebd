use Rattle.std.proofs.Common.{IfSome, refl, subst}
use Rattle.json.specs.Json.{string}
use Rattle.put_bodies.specs.ElementParts.{ValueStands}
use Rattle.put_bodies.specs.TextScans.{lexemes}
use Rattle.put_bodies.proofs.SpelledValues.{text_at}
use Rattle.put_bodies.proofs.element_scan.next_value.Goals as goal

pub returns-in-Some-clause-stands : goal.returns-in-Some-clause-stands
returns-in-Some-clause-stands c = record {
  j = string c.in-Some.text.now;
  is = refl;
  at = text_at c.in-Some.text.now (lexemes c.args.text.now) (lexemes c.in-Some.rest.now) c.in-Some.ensures.lexeme;
}

pub returns-in-None-clause-stands : goal.returns-in-None-clause-stands
returns-in-None-clause-stands c = subst (λ ls. IfSome c.number_value.result (λ found. ValueStands found.0 ls (lexemes found.1.now))) c.behind_blanks.ensures.same c.number_value.ensures.stands
