use Rattle.std.proofs.Common.{◌-◌, refl, arith}
use Rattle.packed_cells.proofs.EvenRows.{last_slot, stamp_even, stamp_stamped}
use Rattle.packed_cells.proofs.even_cells.EvenCells.stamp_last.Goals as goal

pub invariant_of-self : goal.invariant_of-self
invariant_of-self c =
    stamp_even c.self.inside.first c.self.inside.step c.self.inside.next c.self.inside.holes c.self.inside.slots.items c.self.invariant c.args.qual.now c.in-Some.number (c.len-last.result - 1)
    (last_slot c.self.inside.first c.self.inside.step c.self.inside.next c.len-last.result c.self.inside.slots.items c.args.qual.now c.in-Some.number c.in-Some.ensures.two (c.if-not-ends_at.ensures.some refl) (omega (arith, c.len-last.ensures)) c.self.invariant.ends (c.if-not-ends_at.ensures.offset refl) (c.if-not-ends_at.ensures.flags refl))
    c.index_mut.result.now c.index_mut.ensures.value c.to_le_bytes.result c.args.version c.to_le_bytes.ensures c.ranges.version.fits

pub returns : goal.returns
returns c =
    rw (← c.self.view_is)
    (stamp_stamped c.self.inside.first c.self.inside.step c.self.inside.next c.self.inside.holes c.self.inside.slots.items c.self.invariant c.args.qual.now c.in-Some.number (c.len-last.result - 1)
    (last_slot c.self.inside.first c.self.inside.step c.self.inside.next c.len-last.result c.self.inside.slots.items c.args.qual.now c.in-Some.number c.in-Some.ensures.two (c.if-not-ends_at.ensures.some refl) (omega (arith, c.len-last.ensures)) c.self.invariant.ends (c.if-not-ends_at.ensures.offset refl) (c.if-not-ends_at.ensures.flags refl))
    c.index_mut.result.now c.index_mut.ensures.value c.to_le_bytes.result c.args.version c.to_le_bytes.ensures c.ranges.version.fits)
