use Rattle.std.proofs.Common.{sym, refl, ◌∙◌, arith}
use Rattle.packed_cells.specs.EvenCells.{even_cells}
use Rattle.packed_cells.specs.Keyed.{map_of}
use Rattle.packed_cells.specs.declared.even_cells.EvenValue.TheVariants.{Gone}
use Rattle.packed_cells.proofs.Keyed.{kept_without}
use Rattle.packed_cells.proofs.EvenRows.{still_there, goes_away, gone_even, gone_without}
use Rattle.packed_cells.proofs.even_cells.EvenCells.remove.Goals as goal

pub returns-then-from_le_bytes-version-clause-gone : goal.returns-then-from_le_bytes-version-clause-gone
returns-then-from_le_bytes-version-clause-gone c =
    rw (← c.self.view_is) (sym (still_there c.self.inside.first c.self.inside.step c.self.inside.next c.self.inside.holes c.self.inside.slots.items c.self.invariant c.args.qual.now c.in-Some.found.1 c.in-Some.found.0 c.in-Some.ensures.found c.index.result.now c.index.ensures c.args.version (omega (arith, c.if-from_le_bytes-version.true, c.from_le_bytes.ensures))))

pub returns-then-from_le_bytes-version-clause-rest : goal.returns-then-from_le_bytes-version-clause-rest
returns-then-from_le_bytes-version-clause-rest c =
    rw (← c.self.view_is) (kept_without c.args.qual.now c.args.version (map_of (even_cells c.self.inside.first c.self.inside.step c.self.inside.slots.items))
    (still_there c.self.inside.first c.self.inside.step c.self.inside.next c.self.inside.holes c.self.inside.slots.items c.self.invariant c.args.qual.now c.in-Some.found.1 c.in-Some.found.0 c.in-Some.ensures.found c.index.result.now c.index.ensures c.args.version (omega (arith, c.if-from_le_bytes-version.true, c.from_le_bytes.ensures))))

pub invariant_of-self : goal.invariant_of-self
invariant_of-self c =
    gone_even c.self.inside.first c.self.inside.step c.self.inside.next c.self.inside.holes c.self.inside.slots.items c.self.invariant c.args.qual.now c.in-Some.found.1 c.in-Some.found.0 c.in-Some.ensures.found c.index.result.now c.index.ensures c.args.version (omega (arith, c.if-from_le_bytes-version.false, c.from_le_bytes.ensures))
    (record { version = c.index_mut.result.now.version; value = Gone }) refl

pub returns-clause-gone : goal.returns-clause-gone
returns-clause-gone c =
    rw (← c.self.view_is) (sym (goes_away c.self.inside.first c.self.inside.step c.self.inside.next c.self.inside.holes c.self.inside.slots.items c.self.invariant c.args.qual.now c.in-Some.found.1 c.in-Some.found.0 c.in-Some.ensures.found c.index.result.now c.index.ensures c.args.version (omega (arith, c.if-from_le_bytes-version.false, c.from_le_bytes.ensures))))

pub returns-clause-rest : goal.returns-clause-rest
returns-clause-rest c =
    rw (← c.self.view_is) (c.shrink.ensures ∙ gone_without c.self.inside.first c.self.inside.step c.self.inside.next c.self.inside.holes c.self.inside.slots.items c.self.invariant c.args.qual.now c.in-Some.found.1 c.in-Some.found.0 c.in-Some.ensures.found c.index.result.now c.index.ensures c.args.version (omega (arith, c.if-from_le_bytes-version.false, c.from_le_bytes.ensures))
    (record { version = c.index_mut.result.now.version; value = Gone }) refl)
