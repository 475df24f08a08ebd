use Rattle.std.proofs.Common.{sym, ap, ◌∙◌}
use Rattle.std.specs.FinMap.{len}
use Rattle.std.proofs.lemmas.List.{length-map}
use Rattle.packed_cells.specs.TreeCells.{entry_cell, tree_cells}
use Rattle.packed_cells.proofs.Keyed.{len_is}
use Rattle.packed_cells.proofs.Trees.{tree_rises}
use Rattle.packed_cells.proofs.tree_cells.TreeCells.len.Goals as goal

pub returns : goal.returns
returns c =
    let es = c.self.inside.cells.entries in
    c.len.ensures.len ∙ sym (length-map es entry_cell) ∙ len_is (tree_cells es) (tree_rises es c.len.ensures.ordered) ∙ ap len c.self.view_is
