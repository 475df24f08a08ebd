use Rattle.put_bodies.proofs.MemberTurns.{no_parts}
use Rattle.put_bodies.proofs.element_scan.no_parts.Goals as goal

pub returns : goal.returns
returns c words = no_parts words
