use Rattle.packed_cells.proofs.LastCells.{stamp_rises, last_is_stamped}
use Rattle.packed_cells.proofs.plain_cells.PlainCells.stamp_last.Goals as goal

pub invariant_of-self : goal.invariant_of-self
invariant_of-self c = stamp_rises c.args.qual.now c.args.version c.self.inside.cells c.stamp_last.new.self c.self.invariant c.stamp_last.result c.stamp_last.ensures.found c.stamp_last.ensures.other

pub returns : goal.returns
returns c =
    rw (← c.self.view_is)
    (last_is_stamped c.args.qual.now c.args.version c.self.inside.cells c.stamp_last.new.self c.self.invariant c.stamp_last.result c.stamp_last.ensures.found c.stamp_last.ensures.other)
