use Rattle.std.proofs.Common.{ℕ, List, ap, sym, ◌∙◌}
use Rattle.std.specs.Prelude.{Option, Some, option_map}
use Rattle.packed_cells.specs.declared.tree_cells.TreeCell.{TreeCell}
use Rattle.packed_cells.proofs.Trees.{get_tree, held_in}
use Rattle.packed_cells.proofs.tree_cells.TreeCells.value.Goals as goal

value_of : Option TreeCell → Option (List ℕ)
value_of o = option_map (λ (p : List ℕ × ℕ). p.0) (option_map held_in o)

pub returns-in-Some : goal.returns-in-Some
unfolding value_of
returns-in-Some c =
    rw (← c.self.view_is) (ap Some c.as_slice.ensures.value ∙ ap value_of c.in-Some.ensures.value ∙ sym (ap (option_map (λ (p : List ℕ × ℕ). p.0)) (get_tree c.args.qual.now c.self.inside.cells.entries)))

pub returns-in-None : goal.returns-in-None
unfolding value_of
returns-in-None c = rw (← c.self.view_is) (ap value_of c.in-None.ensures.value ∙ sym (ap (option_map (λ (p : List ℕ × ℕ). p.0)) (get_tree c.args.qual.now c.self.inside.cells.entries)))
