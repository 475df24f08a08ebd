use Rattle.std.proofs.Common.{List, ℕ, subst, sym}
use Rattle.put_bodies.specs.ElementLines.{IsLineOf, IsNext}
use Rattle.put_bodies.proofs.ReadElements.{empty_line}
use Rattle.put_bodies.proofs.body_lines.next_turn.Goals as goal

pub returns-in-Line-clause-turn : goal.returns-in-Line-clause-turn
returns-in-Line-clause-turn c elements goes = subst (λ r. IsNext elements r c.next_line.new.line.items c.next_line.new.items) c.in-Line.is (c.next_line.ensures.next elements goes)

pub returns-in-Other-clause-turn : goal.returns-in-Other-clause-turn
returns-in-Other-clause-turn c elements goes =
    let n = subst (λ r. IsNext elements r c.next_line.new.line.items c.next_line.new.items) c.in-Other.is (c.next_line.ensures.next elements goes) in
    (n.0, n.1, n.2, subst (λ (line : List ℕ). IsLineOf line n.0) (sym c.clear.ensures.items) (empty_line n.0), n.3)

pub returns-in-End-clause-turn : goal.returns-in-End-clause-turn
returns-in-End-clause-turn c elements goes = subst (λ r. IsNext elements r c.next_line.new.line.items c.next_line.new.items) c.in-End.is (c.next_line.ensures.next elements goes)
