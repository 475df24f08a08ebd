use Rattle.std.proofs.Common.{sym, ◌≡◌, ℕ, List, length, ap, ◌∙◌}
use Rattle.std.specs.Prelude.{Some}
use Rattle.std.specs.FinMap as fin
use Rattle.packed_cells.specs.EvenCells.{even_cells}
use Rattle.packed_cells.specs.Keyed.{map_of}
use Rattle.packed_cells.proofs.EvenRows.{set_even, set_put, same_suits}
use Rattle.packed_cells.proofs.even_cells.EvenCells.set.Goals as goal

pub invariant_of-self : goal.invariant_of-self
invariant_of-self c =
    set_even c.self.inside.first c.self.inside.step c.self.inside.next c.self.inside.holes c.self.inside.slots.items c.self.invariant c.args.qual.now c.in-Some.found.1 c.in-Some.found.0 c.in-Some.ensures.found
    c.index.result.now c.index.ensures c.in-Some-slot_of.slot c.args.value.now c.args.version (c.in-Some-slot_of.ensures.cell ∙ ap (λ (q : List ℕ). Some (record { qual = q; value = c.args.value.now; version = c.args.version })) c.in-Some.ensures.found.two)

pub returns-in-Some-slot_of-clause-cells : goal.returns-in-Some-slot_of-clause-cells
returns-in-Some-slot_of-clause-cells c =
    rw (← c.self.view_is)
    (set_put c.self.inside.first c.self.inside.step c.self.inside.next c.self.inside.holes c.self.inside.slots.items c.self.invariant c.args.qual.now c.in-Some.found.1 c.in-Some.found.0 c.in-Some.ensures.found
    c.index.result.now c.index.ensures c.in-Some-slot_of.slot c.args.value.now c.args.version (c.in-Some-slot_of.ensures.cell ∙ ap (λ (q : List ℕ). Some (record { qual = q; value = c.args.value.now; version = c.args.version })) c.in-Some.ensures.found.two))

pub returns-in-None-clause-in_place : goal.returns-in-None-clause-in_place
returns-in-None-clause-in_place c v n is same =
    let found : fin.get (map_of (even_cells c.self.inside.first c.self.inside.step c.self.inside.slots.items)) c.args.qual.now ≡ Some (v, n) = rw c.self.view_is is in
    let suits = same_suits c.self.inside.first c.self.inside.step c.self.inside.next c.self.inside.holes c.self.inside.slots.items c.self.invariant c.args.qual.now c.in-Some.found.1 c.in-Some.found.0 c.in-Some.ensures.found
    c.index.result.now c.index.ensures v c.args.value.now n found same (λ few. ap length (sym c.bytes_of.ensures.bytes) ∙ c.bytes_of.ensures.count few) in
    c.in-None.ensures.suits suits.0 suits.1
