use Rattle.std.proofs.Common.{List, ℕ, subst, sym}
use Rattle.put_bodies.specs.ElementLines.{IsLineOf}
use Rattle.put_bodies.proofs.ReadElements.{empty_line}
use Rattle.put_bodies.proofs.element_scan.write_line.Goals as goal

pub returns-in-Ok : goal.returns-in-Ok
returns-in-Ok c front d has read = c.in-Ok.ensures front d has read c.clear.ensures.items

pub returns-in-Err : goal.returns-in-Err
returns-in-Err c front d has read = subst (λ (line : List ℕ). IsLineOf line d) (sym c.clear-in-Err.ensures.items) (empty_line d)
