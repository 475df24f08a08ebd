use Rattle.std.proofs.Common.{List, length}
use Rattle.serde_json.specs.Data.{Data}
use Rattle.put_bodies.specs.BodyTapes.{GoesOnWith}
use Rattle.put_bodies.proofs.TapeTurns.{TapeSoFar}
use Rattle.put_bodies.proofs.body_lines.lines_of.Given as goal

abbrev pub invariant-turns : goal.invariant-turns
invariant-turns l = (elements : List Data) → GoesOnWith l.fn.list elements → TapeSoFar elements l.items l.lines

abbrev pub decreases-turns : goal.decreases-turns
decreases-turns l = length l.items
