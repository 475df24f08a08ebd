use Rattle.cell_blocks.proofs.Strips.{inserted}
use Rattle.cell_blocks.proofs.strip.Strip.insert.Goals as goal

pub returns-clause-ok : goal.returns-clause-ok
returns-clause-ok g c = inserted g.V.SmallValue.bytes c.self.inside.slots.items c.args.self.now c.self.view_is c.args.i c.place.new.items.items c.in-Some.slot _ c.in_ok-place.ensures.ok c.in-Some.ensures.cell
