use Rattle.cell_blocks.proofs.Order.{none}
use Rattle.cell_blocks.proofs.Strips.{restamped, still_ends}
use Rattle.cell_blocks.proofs.strip.Strip.stamp.Goals as goal

pub invariant_of-self : goal.invariant_of-self
invariant_of-self g c =
    still_ends g.V.SmallValue.bytes c.self.inside.slots.items c.args.self.now c.self.view_is c.args.i c.self.inside.last _ c.args.version none c.self.invariant c.requires
    (restamped g.V.SmallValue.bytes c.self.inside.slots.items c.args.self.now c.self.view_is c.args.i c.index_mut.result.now c.to_le_bytes.result c.args.version none c.requires c.index_mut.ensures.value c.to_le_bytes.ensures c.ranges.version.fits)

pub returns : goal.returns
returns g c d = restamped g.V.SmallValue.bytes c.self.inside.slots.items c.args.self.now c.self.view_is c.args.i c.index_mut.result.now c.to_le_bytes.result c.args.version d c.requires c.index_mut.ensures.value c.to_le_bytes.ensures c.ranges.version.fits
