use Rattle.std.proofs.Common.{sym, subst}
use Rattle.cell_blocks.specs.Packed.{IsKept}
use Rattle.cell_blocks.proofs.Spans.{removed_kept}
use Rattle.cell_blocks.proofs.mixed_cells.MixedCells.take_out.Goals as goal

pub invariant_of-self : goal.invariant_of-self
invariant_of-self c = subst (IsKept c.self.inside.bytes.items c.self.inside.longs.items) (sym c.remove-head.ensures.items) (removed_kept c.self.inside.bytes.items c.self.inside.longs.items c.self.inside.heads.items c.args.i c.self.invariant)
