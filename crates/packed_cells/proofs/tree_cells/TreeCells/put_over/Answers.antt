use Rattle.std.proofs.Common.{◌≡◌, ℕ, List, length, refl, ap, sym, subst, ◌∙◌, arith}
use Rattle.std.specs.Prelude.{None, Some, IsSome, option_map}
use Rattle.std.specs.FinMap.{get, insert}
use Rattle.std.specs.BTreeMap.{is_at}
use Rattle.std.proofs.lemmas.Map.Steps.{set_value_same}
use Rattle.packed_cells.specs.Keyed.{CellMap, map_of}
use Rattle.packed_cells.specs.TreeCells.{tree_cells}
use Rattle.packed_cells.specs.declared.tree_cells.TreeCell.{TreeCell}
use Rattle.packed_cells.proofs.Keyed.{value_of_some}
use Rattle.packed_cells.proofs.Columns.{overwritten_whole}
use Rattle.packed_cells.proofs.Trees.{Entry, at_qual, get_tree, held_in, put_in_tree}
use Rattle.packed_cells.proofs.tree_cells.TreeCells.put_over.Goals as goal

pub returns-in_default-clause-there : goal.returns-in_default-clause-there
returns-in_default-clause-there c v n is same =
    let none : get (map_of (tree_cells c.self.inside.cells.entries)) c.args.qual.now ≡ None = get_tree c.args.qual.now c.self.inside.cells.entries ∙ ap (option_map held_in) (sym c.in_default.ensures.value) in
    let found : get (map_of (tree_cells c.self.inside.cells.entries)) c.args.qual.now ≡ Some (v, n) = rw c.self.view_is is in
    cc

pub returns-then-len-value-clause-put : goal.returns-then-len-value-clause-put
returns-then-len-value-clause-put c =
    rw (← c.self.view_is) (ap (λ (es : List Entry). map_of (tree_cells es)) ((c.get_mut.follows.holds c.in-Some.cell.now).0 ∙ set_value_same (is_at (at_qual c.args.qual.now)) c.self.inside.cells.entries c.in-Some.cell.now (sym c.in-Some.ensures.value)))

pub returns-then-len-value-clause-there : goal.returns-then-len-value-clause-there
returns-then-len-value-clause-there c v n is same =
    let there : get (map_of (tree_cells c.self.inside.cells.entries)) c.args.qual.now ≡ Some (held_in c.in-Some.cell.now) = get_tree c.args.qual.now c.self.inside.cells.entries ∙ ap (option_map held_in) (sym c.in-Some.ensures.value) in
    let found : get (map_of (tree_cells c.self.inside.cells.entries)) c.args.qual.now ≡ Some (v, n) = rw c.self.view_is is in
    let value : c.in-Some.cell.now.value.items ≡ v = value_of_some _ v _ n (sym there ∙ found) in
    let e : length c.in-Some.cell.now.value.items ≡ length v = ap length value in
    absurd (grind (arith, c.if-len-value.true, c.len.ensures, e, same))

pub returns-clause-put : goal.returns-clause-put
returns-clause-put c =
    let t : TreeCell = record { value = c.overwrite.new.bytes; version = c.args.version } in
    let after = (c.get_mut.follows.holds t).3 (subst IsSome c.in-Some.ensures.value refl) in
    let bytes : c.overwrite.new.bytes.items ≡ c.args.value.now = c.overwrite.ensures ∙ overwritten_whole c.in-Some.cell.now.value.items c.args.value.now (grind (arith, c.if-len-value.false, c.len.ensures)) in
    put_in_tree c.args.qual.now c.self.inside.cells (c.get_mut.follows.lender t) t after
    ∙ ap (λ (m : CellMap). insert m c.args.qual.now (held_in t)) c.self.view_is
    ∙ ap (λ (v : List ℕ). insert c.args.self.now c.args.qual.now (v, c.args.version)) bytes
