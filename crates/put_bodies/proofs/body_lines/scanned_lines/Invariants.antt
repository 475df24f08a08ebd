use Rattle.put_bodies.specs.TextScans.{lexemes}
use Rattle.std.proofs.Common.{length}
use Rattle.put_bodies.proofs.ItemScans.{ItemsRead}
use Rattle.put_bodies.proofs.body_lines.scanned_lines.Given as goal

abbrev pub invariant-turns : goal.invariant-turns
invariant-turns l = ItemsRead (lexemes l.initial.rest) (lexemes l.rest) l.lines

abbrev pub decreases-turns : goal.decreases-turns
decreases-turns l = length l.rest
