use Rattle.std.proofs.Common.{◌≡◌, List, ◌++◌}
use Rattle.packed_cells.specs.TreeCells.{tree_cells}
use Rattle.packed_cells.proofs.Trees.{Entry}
use Rattle.packed_cells.proofs.tree_cells.copy_of.Given as goal

-- the cells before the place are copied
abbrev pub invariant-loop-qual : goal.invariant-loop-qual
invariant-loop-qual l = (done : List Entry) × (l.cells.entries ≡ done ++ l.qual-iterator) × (l.made ≡ tree_cells done)
