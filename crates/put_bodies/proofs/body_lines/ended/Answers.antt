use Rattle.std.proofs.Common.{refl}
use Rattle.put_bodies.proofs.FloatTexts.{empty_lexed}
use Rattle.put_bodies.proofs.body_lines.ended.Goals as goal

pub returns-then-is_empty : goal.returns-then-is_empty
returns-then-is_empty c = (refl, empty_lexed c.args.rest.now c.behind_blanks.result.now c.is_empty.result c.behind_blanks.ensures.same c.is_empty.ensures c.if-is_empty.true)
