use Rattle.std.proofs.Common.{◌≡◌, refl, ap, sym, subst, ◌∙◌}
use Rattle.std.specs.Prelude.{None, Some, IsSome, option_map}
use Rattle.std.specs.FinMap.{get}
use Rattle.packed_cells.specs.Keyed.{CellMap, map_of, stamped}
use Rattle.packed_cells.specs.TreeCells.{tree_cells}
use Rattle.packed_cells.specs.declared.tree_cells.TreeCell.{TreeCell}
use Rattle.packed_cells.proofs.Trees.{Tree, get_tree, held_in, put_in_tree, stamped_there, stamped_none}
use Rattle.packed_cells.proofs.tree_cells.TreeCells.stamp.Goals as goal
use Rattle.packed_cells.proofs.tree_cells.TreeCells.stamp.Goals.{in-Some, in_default}

pub returns : goal.returns
returns c =
    let q = c.args.qual.now in
    let m : CellMap = map_of (tree_cells c.self.inside.cells.entries) in
    elim c.match-get_mut.branch [
      | in-Some w ↦
          let t : TreeCell = record { value = w.in-Some.cell.now.value; version = c.args.version } in
          let there : get m q ≡ Some (held_in w.in-Some.cell.now) = get_tree q c.self.inside.cells.entries ∙ ap (option_map held_in) (sym w.in-Some.ensures.value) in
          let after = (c.get_mut.follows.holds t).3 (subst IsSome w.in-Some.ensures.value refl) in
          ap (λ s. map_of (tree_cells s.cells.entries)) w.self-inside-is
          ∙ put_in_tree q c.self.inside.cells (c.get_mut.follows.lender t) t after
          ∙ stamped_there q m w.in-Some.cell.now.value.items w.in-Some.cell.now.version c.args.version there
          ∙ ap (λ (n : CellMap). stamped n q c.args.version) c.self.view_is
      | in_default w ↦
          let none : get m q ≡ None = get_tree q c.self.inside.cells.entries ∙ ap (option_map held_in) (sym w.in_default.ensures.value) in
          ap (λ s. map_of (tree_cells s.cells.entries)) w.self-inside-is
          ∙ ap (λ (t : Tree). map_of (tree_cells t.entries)) c.get_mut.follows.holds-at-none
          ∙ stamped_none q m c.args.version none
          ∙ ap (λ (n : CellMap). stamped n q c.args.version) c.self.view_is
    ]
