use Rattle.packed_cells.proofs.EvenRows.{stamp_even, stamp_stamped}
use Rattle.packed_cells.proofs.even_cells.EvenCells.stamp.Goals as goal

pub invariant_of-self : goal.invariant_of-self
invariant_of-self c =
    stamp_even c.self.inside.first c.self.inside.step c.self.inside.next c.self.inside.holes c.self.inside.slots.items c.self.invariant c.args.qual.now c.in-Some.found.1 c.in-Some.found.0 c.in-Some.ensures.found
    c.index_mut.result.now c.index_mut.ensures.value c.to_le_bytes.result c.args.version c.to_le_bytes.ensures c.ranges.version.fits

pub returns-in-Some : goal.returns-in-Some
returns-in-Some c =
    rw (← c.self.view_is)
    (stamp_stamped c.self.inside.first c.self.inside.step c.self.inside.next c.self.inside.holes c.self.inside.slots.items c.self.invariant c.args.qual.now c.in-Some.found.1 c.in-Some.found.0 c.in-Some.ensures.found
    c.index_mut.result.now c.index_mut.ensures.value c.to_le_bytes.result c.args.version c.to_le_bytes.ensures c.ranges.version.fits)
