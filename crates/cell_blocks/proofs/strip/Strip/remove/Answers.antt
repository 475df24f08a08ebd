use Rattle.cell_blocks.proofs.Strips.{removed}
use Rattle.cell_blocks.proofs.strip.Strip.remove.Goals as goal

pub returns : goal.returns
returns g c = removed g.V.SmallValue.bytes c.self.inside.slots.items c.args.self.now c.self.view_is c.args.i c.remove.new.self.items c.remove.ensures.items
