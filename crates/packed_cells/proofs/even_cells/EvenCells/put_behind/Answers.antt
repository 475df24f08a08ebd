use Rattle.std.proofs.Common.{◌≡◌, ◌+◌, ◌*◌, ◌/◌, ◌++◌, ◌∷◌, [], length, ap, ◌∙◌, subst, sym, arith, rules, List}
use Rattle.packed_cells.specs.EvenCells.{IsEven}
use Rattle.packed_cells.specs.declared.even_cells.EvenSlot.{EvenSlot}
use Rattle.packed_cells.specs.EvenCells.{even_cells}
use Rattle.packed_cells.specs.Keyed.{map_of}
use Rattle.packed_cells.proofs.EvenRows.{more_put, more_even}
use Rattle.packed_cells.proofs.even_cells.EvenCells.put_behind.Goals as goal

pub invariant_of-self-2 : goal.invariant_of-self-2
invariant_of-self-2 c =
    let pushed : c.push.new.self.items ≡ c.self.inside.slots.items ++ c.in-Some-slot_of.slot ∷ [] = search rules in
    let next : c.self.inside.first + length c.self.inside.slots.items * c.self.inside.step ≡ c.in-Some.number / 16 = omega (arith, c.if-offset-self.false, c.self.invariant.ends) in
    subst (λ (ss : List EvenSlot). IsEven c.self.inside.first c.self.inside.step (c.in-Some.number / 16 + c.self.inside.step) c.self.inside.holes ss) (sym pushed)
    (more_even c.self.inside.first c.self.inside.step c.self.inside.holes c.self.inside.slots.items c.self.invariant.grid c.self.invariant.lacking c.args.qual.now c.args.value.now c.in-Some.number c.args.version c.in-Some.ensures.short c.in-Some.ensures.two next c.in-Some-slot_of.slot c.in-Some-slot_of.ensures.cell)

pub returns : goal.returns
returns c =
    let pushed : c.push.new.self.items ≡ c.self.inside.slots.items ++ c.in-Some-slot_of.slot ∷ [] = search rules in
    let next : c.self.inside.first + length c.self.inside.slots.items * c.self.inside.step ≡ c.in-Some.number / 16 = omega (arith, c.if-offset-self.false, c.self.invariant.ends) in
    rw (← c.self.view_is)
    (ap (λ (ss : List EvenSlot). map_of (even_cells c.self.inside.first c.self.inside.step ss)) pushed
    ∙ more_put c.self.inside.first c.self.inside.step c.self.inside.holes c.self.inside.slots.items c.self.invariant.grid c.self.invariant.lacking c.args.qual.now c.args.value.now c.in-Some.number c.args.version c.in-Some.ensures.short c.in-Some.ensures.two next c.in-Some-slot_of.slot c.in-Some-slot_of.ensures.cell)
