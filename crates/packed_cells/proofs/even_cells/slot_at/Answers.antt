use Rattle.std.proofs.Common.{ap, ◌∙◌, arith}
use Rattle.packed_cells.specs.EvenCells.{flags_in}
use Rattle.packed_cells.specs.declared.even_cells.EvenSlot.{EvenSlot}
use Rattle.packed_cells.proofs.EvenRows.{no_number, no_step, no_match}
use Rattle.packed_cells.proofs.even_cells.slot_at.Goals as goal
use Rattle.packed_cells.proofs.even_cells.slot_at.Goals.{else-at-len-via-then-at-len+else-flags_of-number, else-at-len-via-else-at-len}

pub returns-in_err-number-clause-absent : goal.returns-in_err-number-clause-absent
returns-in_err-number-clause-absent c e = no_number c.args.first c.args.step c.args.slots.now.items c.args.qual.now c.requires (λ n two. let some = c.in_err-number.ensures.other n two in absurd cc)

pub returns-in_err-at-clause-absent : goal.returns-in_err-at-clause-absent
returns-in_err-at-clause-absent c e = no_step c.args.first c.args.step c.args.slots.now.items c.args.qual.now c.requires c.in_ok-number.number c.in_ok-number.ensures.short c.in_ok-number.ensures.two (λ p here. let some = c.in_err-at.ensures.other p here in absurd cc)

pub returns-else-at-len-clause-absent : goal.returns-else-at-len-clause-absent
returns-else-at-len-clause-absent c e =
    no_match c.args.first c.args.step c.args.slots.now.items c.args.qual.now c.requires c.in_ok-number.number c.in_ok-number.ensures.short c.in_ok-number.ensures.two c.in_ok-at.at c.in_ok-at.ensures.found
    (elim c.else-at-len.branch [
      | else-at-len-via-then-at-len+else-flags_of-number w ↦ λ lt flags. w.if-flags_of-number.false (w.flags_of.ensures ∙ ap (λ (x : EvenSlot). flags_in x.value) w.index.ensures ∙ flags w.index.result.now)
      | else-at-len-via-else-at-len w ↦ λ lt flags. absurd (omega (arith, w.if-at-len.false, lt, c.len.ensures))
    ])
