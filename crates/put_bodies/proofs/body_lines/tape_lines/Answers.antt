use Rattle.put_bodies.proofs.TapeTurns.{tape_has}
use Rattle.put_bodies.proofs.body_lines.tape_lines.Goals as goal

pub returns : goal.returns
returns c = tape_has c.lines_of.result c.args.text.now c.in_ok-tape.tape c.in_ok-items.items c.in_ok-tape.ensures c.in_ok-items.ensures c.lines_of.ensures
