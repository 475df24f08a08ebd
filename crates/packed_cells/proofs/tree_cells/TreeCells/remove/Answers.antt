use Rattle.std.proofs.Common.{◌≡◌, true, false, cond, ap, sym, ◌∙◌, arith}
use Rattle.std.specs.Prelude.{option_map}
use Rattle.std.specs.FinMap.{get, remove}
use Rattle.std.proofs.lemmas.Bool.Decides.{nat_tests}
use Rattle.packed_cells.specs.Keyed.{CellMap, goes, map_of, without}
use Rattle.packed_cells.specs.TreeCells.{tree_cells}
use Rattle.packed_cells.proofs.Keyed.{kept_without}
use Rattle.packed_cells.proofs.Trees.{get_tree, held_in, taken_from_tree}
use Rattle.packed_cells.proofs.tree_cells.TreeCells.remove.Goals as goal

pub returns-in_default-clause-gone : goal.returns-in_default-clause-gone
returns-in_default-clause-gone c =
    rw (← c.self.view_is) (sym (ap (λ o. goes o c.args.version) (get_tree c.args.qual.now c.self.inside.cells.entries ∙ ap (option_map held_in) (sym c.in_default.ensures.value))))

pub returns-in_default-clause-rest : goal.returns-in_default-clause-rest
returns-in_default-clause-rest c =
    rw (← c.self.view_is) (kept_without c.args.qual.now c.args.version (map_of (tree_cells c.self.inside.cells.entries)) (ap (λ o. goes o c.args.version) (get_tree c.args.qual.now c.self.inside.cells.entries ∙ ap (option_map held_in) (sym c.in_default.ensures.value))))

stays : (c : goal.Then-cell-version) → goes (get (map_of (tree_cells c.self.inside.cells.entries)) c.args.qual.now) c.args.version ≡ false
stays c =
    ap (λ o. goes o c.args.version) (get_tree c.args.qual.now c.self.inside.cells.entries ∙ ap (option_map held_in) (sym c.in-Some.ensures.value))
    ∙ grind (arith, nat_tests, c.if-cell-version.true)

pub returns-then-cell-version-clause-gone : goal.returns-then-cell-version-clause-gone
returns-then-cell-version-clause-gone c = rw (← c.self.view_is) (sym (stays c))

pub returns-then-cell-version-clause-rest : goal.returns-then-cell-version-clause-rest
returns-then-cell-version-clause-rest c = rw (← c.self.view_is) (kept_without c.args.qual.now c.args.version (map_of (tree_cells c.self.inside.cells.entries)) (stays c))

went : (c : goal.Joined-remove) → goes (get (map_of (tree_cells c.self.inside.cells.entries)) c.args.qual.now) c.args.version ≡ true
went c =
    ap (λ o. goes o c.args.version) (get_tree c.args.qual.now c.self.inside.cells.entries ∙ ap (option_map held_in) (sym c.in-Some.ensures.value))
    ∙ grind (arith, nat_tests, c.if-cell-version.false)

pub returns-clause-gone : goal.returns-clause-gone
returns-clause-gone c = rw (← c.self.view_is) (sym (went c))

pub returns-clause-rest : goal.returns-clause-rest
returns-clause-rest c =
    let m : CellMap = map_of (tree_cells c.self.inside.cells.entries) in
    taken_from_tree c.args.qual.now c.self.inside.cells c.remove.new.self c.remove.ensures.updates
    ∙ ap (λ b. cond b (remove m c.args.qual.now) m) (sym (went c))
    ∙ ap (λ (n : CellMap). without n c.args.qual.now c.args.version) c.self.view_is
