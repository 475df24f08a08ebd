use Rattle.std.proofs.Common.{List, ℕ, ap, [], ◌++◌, ◌∷◌, ◌∙◌}
use Rattle.put_bodies.proofs.TapeTurns.{tape_end, tape_more}
use Rattle.put_bodies.proofs.body_lines.lines_of.Goals as goal

pub turns-preserved : goal.turns-preserved
turns-preserved c elements goes =
    let so = c.turns.invariant elements goes in
    tape_more elements c.turns.items c.next_turn.new.items c.turns.lines c.in_ok-lines.lines c.next_turn.new.line.items c.next_turn.result so c.turns-test.true (c.next_turn.ensures.turn so.rest so.goes)
    (c.in_ok-lines.ensures ∙ ap (λ (line : List ℕ). c.turns.lines ++ line ∷ []) c.as_slice.ensures.value)

pub returns : goal.returns
returns c elements goes =
    let so = c.turns.invariant elements goes in
    tape_end elements c.turns.items c.next_turn.new.items c.turns.lines c.next_turn.new.line.items c.next_turn.result so c.turns-test.false (c.next_turn.ensures.turn so.rest so.goes)
