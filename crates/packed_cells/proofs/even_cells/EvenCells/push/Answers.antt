use Rattle.std.proofs.Common.{◌+◌, ◌/◌, List, length, sym, ap, subst, ◌∙◌}
use Rattle.std.specs.Prelude.{Option}
use Rattle.std.specs.FinMap as fin
use Rattle.qual_codec.specs.declared.cells.Cell.{Cell}
use Rattle.packed_cells.specs.EvenCells.{present, even_cells, IsEven}
use Rattle.packed_cells.specs.Keyed.{map_of}
use Rattle.packed_cells.specs.declared.even_cells.EvenSlot.{EvenSlot}
use Rattle.packed_cells.proofs.EvenRows.{more_put, more_even}
use Rattle.packed_cells.proofs.even_cells.EvenCells.push.Goals as goal

pub invariant_of-self-2 : goal.invariant_of-self-2
invariant_of-self-2 c =
    subst (λ (ss : List EvenSlot). IsEven c.in-Some-grid_to.grid.0 c.in-Some-grid_to.grid.1 (c.in-Some.number / 16 + c.in-Some-grid_to.grid.1) c.self.inside.holes ss) (sym c.in_ok-add_slot.ensures.ok)
    (more_even c.in-Some-grid_to.grid.0 c.in-Some-grid_to.grid.1 c.self.inside.holes c.self.inside.slots.items c.in-Some-grid_to.ensures.grid
    (ap (λ (os : List (Option Cell)). c.self.inside.holes + length (present os)) c.in-Some-grid_to.ensures.same ∙ c.self.invariant.lacking)
    c.args.qual.now c.args.value.now c.in-Some.number c.args.version c.in-Some.ensures.short c.in-Some.ensures.two c.in-Some-grid_to.ensures.next c.in-Some-slot_of.slot c.in-Some-slot_of.ensures.cell)

pub returns-clause-ok : goal.returns-clause-ok
returns-clause-ok c =
    rw (← c.self.view_is)
    (ap (λ (ss : List EvenSlot). map_of (even_cells c.in-Some-grid_to.grid.0 c.in-Some-grid_to.grid.1 ss)) c.in_ok-add_slot.ensures.ok
    ∙ more_put c.in-Some-grid_to.grid.0 c.in-Some-grid_to.grid.1 c.self.inside.holes c.self.inside.slots.items c.in-Some-grid_to.ensures.grid
    (ap (λ (os : List (Option Cell)). c.self.inside.holes + length (present os)) c.in-Some-grid_to.ensures.same ∙ c.self.invariant.lacking)
    c.args.qual.now c.args.value.now c.in-Some.number c.args.version c.in-Some.ensures.short c.in-Some.ensures.two c.in-Some-grid_to.ensures.next c.in-Some-slot_of.slot c.in-Some-slot_of.ensures.cell
    ∙ ap (λ (os : List (Option Cell)). fin.insert (map_of (present os)) c.args.qual.now (c.args.value.now, c.args.version)) c.in-Some-grid_to.ensures.same)
