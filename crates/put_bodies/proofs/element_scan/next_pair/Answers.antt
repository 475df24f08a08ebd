use Rattle.std.proofs.Common.{List, ap, ◌∙◌, ◌∷◌}
use Rattle.json.specs.Token.{string}
use Rattle.json.specs.Lex.{Lexeme, colon, token}
use Rattle.put_bodies.specs.TextScans.{lexemes}
use Rattle.put_bodies.proofs.SpelledValues.{colon_is}
use Rattle.put_bodies.proofs.element_scan.next_pair.Goals as goal

pub returns-clause-stands : goal.returns-clause-stands
returns-clause-stands c = record {
  pair = (c.in_ok-key.key.now, c.in_ok-value.value.now);
  inside = lexemes c.in_ok-inside.inside.now;
  keyed = c.in_ok-key.ensures.lexeme ∙ ap (λ (ls : List Lexeme). token (string c.in_ok-key.key.now) ∷ ls) (c.in_ok-inside.ensures.lexeme colon colon_is);
  text = c.in_ok-value.ensures.lexeme;
  words = c.add_pair-still.ensures;
}
