use Rattle.std.proofs.Common.{arith, rules, []}
use Rattle.std.specs.Prelude.{slice_index_or}
use Rattle.packed_cells.specs.declared.even_cells.EvenValue.TheVariants.{One}
use Rattle.packed_cells.proofs.EvenRows.{read_slot, offset_fits, next_grid, next_cells, no_cells_left}
use Rattle.packed_cells.proofs.even_cells.strip_of.Goals as goal

pub add_cell-requires : goal.add_cell-requires
add_cell-requires c =
    offset_fits c.loop-slot.offset c.args.step c.loop-slot.slot-index c.args.slots.now.items (omega (arith, c.loop-slot-test.true, c.deref-slot-items.ensures.len)) c.loop-slot.invariant.grid

pub loop-slot-init : goal.loop-slot-init
loop-slot-init c = record { grid = c.requires; so_far = search rules }

pub loop-slot-preserved : goal.loop-slot-preserved
loop-slot-preserved c = record {
  grid = next_grid c.loop-slot.offset c.args.step c.loop-slot.slot-index c.args.slots.now.items (omega (arith, c.loop-slot-test.true, c.deref-slot-items.ensures.len)) c.loop-slot.invariant.grid;
  so_far =
      next_cells c.loop-slot.offset c.args.step c.loop-slot.slot-index c.args.slots.now.items (slice_index_or c.deref-slot-items.result.now c.loop-slot.slot-index (record { version = []; value = One [] })) c.loop-slot.made c.add_cell.new.made _ (omega (arith, c.loop-slot-test.true, c.deref-slot-items.ensures.len)) (read_slot c.deref-slot-items.result.now c.args.slots.now.items c.loop-slot.slot-index (record { version = []; value = One [] }) c.deref-slot-items.ensures.value (omega (arith, c.loop-slot-test.true, c.deref-slot-items.ensures.len))) c.in_ok-add_cell.ensures c.loop-slot.invariant.so_far;
}

pub returns : goal.returns
returns c = no_cells_left c.loop-slot.offset c.args.step c.loop-slot.slot-index c.args.slots.now.items c.loop-slot.made _ (omega (arith, c.loop-slot-test.false, c.deref-slot-items.ensures.len)) c.loop-slot.invariant.so_far
