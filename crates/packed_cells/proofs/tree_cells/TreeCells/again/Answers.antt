use Rattle.packed_cells.proofs.Trees.{tree_copied}
use Rattle.packed_cells.proofs.tree_cells.TreeCells.again.Goals as goal

pub returns-clause-same : goal.returns-clause-same
returns-clause-same c = tree_copied c.copy_of.result c.self.inside.cells.entries c.args.self.now c.self.view_is c.copy_of.ensures.same c.copy_of.ensures.rises
