use Rattle.std.proofs.Common.{rules, ◌≡◌, true, List, ap, ◌∙◌, ◌∷◌, bytes_eq, codes}
use Rattle.json.specs.Json.{no_members, object}
use Rattle.json.specs.Token.{string}
use Rattle.json.specs.Lex.{Lexeme, colon, token}
use Rattle.put_bodies.specs.LineWords.{onto}
use Rattle.put_bodies.specs.TextScans.{lexemes}
use Rattle.put_bodies.proofs.MemberTurns.{with_tags}
use Rattle.put_bodies.proofs.PartWords.{plain_read}
use Rattle.put_bodies.proofs.ReadElements.{tags_read}
use Rattle.put_bodies.proofs.SpelledValues.{colon_is}
use Rattle.put_bodies.proofs.element_scan.next_member.Goals as goal

pub returns-in_ok-tags-clause-stands : goal.returns-in_ok-tags-clause-stands
returns-in_ok-tags-clause-stands c =
    let t = c.in_ok-tags.ensures.stands in
    let same : bytes_eq c.in_ok-key.key.now (codes "tags") ≡ true = search rules in
    record {
      key = c.in_ok-key.key.now;
      inside = lexemes c.in_ok-inside.inside.now;
      keyed = c.in_ok-key.ensures.lexeme ∙ ap (λ (ls : List Lexeme). token (string c.in_ok-key.key.now) ∷ ls) (c.in_ok-inside.ensures.lexeme colon colon_is);
      j = object (onto t.pairs no_members);
      at = t.at;
      read = tags_read t.pairs;
      parts = λ front has. with_tags front c.args.words.now.items c.next_tags.new.words.items c.in_ok-key.key.now c.args.parts t.pairs c.in_ok-tags.tags has same t.written;
    }

pub returns-in_ok-value-clause-stands : goal.returns-in_ok-value-clause-stands
returns-in_ok-value-clause-stands c =
    let v = c.in_ok-value.ensures.stands in
    record {
      key = c.in_ok-key.key.now;
      inside = lexemes c.in_ok-inside.inside.now;
      keyed = c.in_ok-key.ensures.lexeme ∙ ap (λ (ls : List Lexeme). token (string c.in_ok-key.key.now) ∷ ls) (c.in_ok-inside.ensures.lexeme colon colon_is);
      j = v.j;
      at = v.at;
      read = plain_read c.in_ok-value.value v.j v.is;
      parts = λ front has. c.with_value.ensures front c.args.words.now.items v.j v.is has;
    }
