use Rattle.std.proofs.Common.{rules, List, ◌∙◌, ◌++◌, ◌∷◌, [], ℕ, ap}
use Rattle.put_bodies.proofs.LineTexts.{pushed_lines, pushed_rise}
use Rattle.put_bodies.proofs.body_lines.BodyLines.with.Goals as goal

pub invariant_of-result : goal.invariant_of-result
invariant_of-result c =
    pushed_rise c.self.inside.ends.items c.push.new.self.items c.self.inside.text.items c.extend_from_slice.new.self.items c.args.line.now c.len.result (search rules) (search rules) (search rules) c.self.invariant

pub returns : goal.returns
returns c =
    pushed_lines c.self.inside.ends.items c.push.new.self.items c.self.inside.text.items c.extend_from_slice.new.self.items c.args.line.now c.len.result (search rules) (search rules) (search rules) c.self.invariant
    ∙ ap (λ (ls : List (List ℕ)). ls ++ c.args.line.now ∷ []) c.self.view_is
