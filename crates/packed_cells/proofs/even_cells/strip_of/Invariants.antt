use Rattle.std.proofs.Common.{◌≡◌, ◌++◌, length}
use Rattle.std.specs.Prelude.{drop}
use Rattle.packed_cells.specs.EvenCells.{even_cells, IsGrid}
use Rattle.packed_cells.proofs.even_cells.strip_of.Given as goal

abbrev pub invariant-loop-slot : goal.invariant-loop-slot
invariant-loop-slot l = record { grid : IsGrid l.offset l.step (length (drop l.slot-index l.slots.items)); so_far : l.made ++ even_cells l.offset l.step (drop l.slot-index l.slots.items) ≡ even_cells l.fn.first l.step l.slots.items }
