use Rattle.std.proofs.Common.{ℕ, List, ap, ◌∙◌}
use Rattle.std.specs.FinMap.{insert}
use Rattle.packed_cells.specs.Keyed.{CellMap}
use Rattle.packed_cells.specs.declared.tree_cells.TreeCell.{TreeCell}
use Rattle.packed_cells.proofs.Trees.{held_in, put_in_tree}
use Rattle.packed_cells.proofs.tree_cells.TreeCells.put.Goals as goal

pub returns-clause-ok : goal.returns-clause-ok
returns-clause-ok c =
    let t : TreeCell = record { value = c.in_ok-value.value; version = c.args.version } in
    put_in_tree c.in_ok-key.key.items c.self.inside.cells c.insert.new.self t c.in_ok-insert.ensures.updates
    ∙ ap (λ (m : CellMap). insert m c.in_ok-key.key.items (held_in t)) (c.self.view_is ∙ c.if-put_over.ensures.put)
    ∙ ap (λ (q : List ℕ). insert c.args.self.now q (held_in t)) c.in_ok-key.ensures.items
    ∙ ap (λ (v : List ℕ). insert c.args.self.now c.args.qual.now (v, c.args.version)) c.in_ok-value.ensures.items
