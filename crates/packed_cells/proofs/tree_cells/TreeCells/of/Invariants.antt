use Rattle.std.proofs.Common.{◌≡◌, ◌≤◌, drop, length}
use Rattle.packed_cells.specs.Keyed.{map_of}
use Rattle.packed_cells.proofs.tree_cells.TreeCells.of.Given as goal

abbrev pub invariant-loop-left : goal.invariant-loop-left
invariant-loop-left l = (l.left ≤ length l.cells) × (l.made ≡ map_of (drop l.left l.cells))

abbrev pub decreases-loop-left : goal.decreases-loop-left
decreases-loop-left l = l.left
