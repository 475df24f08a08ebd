use Rattle.std.proofs.Common.{refl}
use Rattle.json.specs.Json.{number}
use Rattle.put_bodies.specs.TextScans.{lexemes}
use Rattle.put_bodies.proofs.SpelledValues.{number_at}
use Rattle.put_bodies.proofs.element_scan.number_value.Goals as goal

pub returns-clause-stands : goal.returns-clause-stands
returns-clause-stands c = record {
  j = number c.in_ok-kind.text.now;
  is = (refl, c.in_ok-kind.ensures.kind);
  at = number_at c.in_ok-kind.text.now (lexemes c.args.text.now) (lexemes c.in_ok-kind.rest.now) c.in_ok-kind.ensures.lexeme;
}
