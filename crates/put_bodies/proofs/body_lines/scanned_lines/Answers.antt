use Rattle.std.proofs.Common.{List, ◌++◌, ◌∷◌, ◌∙◌, [], ℕ, ap, arith}
use Rattle.json.specs.Token.{begin_array, end_array}
use Rattle.json.specs.Lex.{comma, token}
use Rattle.put_bodies.specs.TextScans.{lexemes}
use Rattle.put_bodies.proofs.ItemScans.{items_closed, items_go_on}
use Rattle.put_bodies.proofs.MemberTurns.{marked}
use Rattle.put_bodies.proofs.SpelledValues.{close_bracket_is, comma_is, open_bracket_is}
use Rattle.put_bodies.proofs.body_lines.scanned_lines.Goals as goal

pub turns-preserved : goal.turns-preserved
turns-preserved c =
    let l = c.turns in
    items_go_on (lexemes c.in_ok-rest.rest.now) (lexemes l.rest.now) (lexemes c.in_ok-behind.behind.now) (lexemes c.in_ok-mark.behind.now) l.lines c.in_ok-lines.lines c.next_element.new.line.items l.invariant c.in_ok-behind.ensures.stands (c.in_ok-lines.ensures ∙ ap (λ (line : List ℕ). l.lines ++ line ∷ []) c.as_slice.ensures.value)
    (marked 44 c.in_ok-mark.mark comma c.in_ok-mark.behind.now (lexemes c.in_ok-behind.behind.now) comma_is (omega (arith, c.if-mark-ne44.false)) c.in_ok-mark.ensures.same)

pub returns-then-mark-eq93 : goal.returns-then-mark-eq93
returns-then-mark-eq93 c =
    let l = c.turns in
    items_closed c.ended.result c.args.text.now (lexemes c.in_ok-rest.rest.now) (lexemes l.rest.now) (lexemes c.in_ok-behind.behind.now) (lexemes c.in_ok-mark.behind.now) l.lines c.in_ok-lines.lines c.next_element.new.line.items (c.in_ok-rest.ensures.lexeme (token begin_array) open_bracket_is)
    l.invariant c.in_ok-behind.ensures.stands (c.in_ok-lines.ensures ∙ ap (λ (line : List ℕ). l.lines ++ line ∷ []) c.as_slice.ensures.value) (marked 93 c.in_ok-mark.mark (token end_array) c.in_ok-mark.behind.now (lexemes c.in_ok-behind.behind.now) close_bracket_is c.if-mark-eq93.true c.in_ok-mark.ensures.same) c.ended.ensures
