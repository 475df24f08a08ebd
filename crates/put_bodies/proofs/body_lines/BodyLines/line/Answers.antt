use Rattle.std.proofs.Common.{List, ℕ, length, subst}
use Rattle.put_bodies.specs.BodyLines.{lines_in}
use Rattle.put_bodies.proofs.LineTexts.{IsAt, line_found}
use Rattle.put_bodies.proofs.body_lines.BodyLines.line.Goals as goal

pub returns : goal.returns
returns c =
    line_found c.piece.result c.self.inside.ends.items c.self.inside.text.items c.args.self.now c.args.at c.self.view_is
    (subst (λ (text : List ℕ). IsAt c.piece.result (length c.self.inside.ends.items) c.args.at (lines_in 0 c.self.inside.ends.items text)) c.as_slice-2.ensures.value
    (subst (λ (ends : List ℕ). IsAt c.piece.result (length ends) c.args.at (lines_in 0 ends c.as_slice-2.result.now)) c.as_slice.ensures.value c.piece.ensures))
