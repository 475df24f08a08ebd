use Rattle.std.proofs.Common.{◌≡◌, ℕ, List, true, false, sym, ap, ◌∙◌}
use Rattle.std.specs.Prelude.{Some, option_map}
use Rattle.std.specs.FinMap.{get}
use Rattle.packed_cells.specs.SoleCells.{sole_map}
use Rattle.packed_cells.proofs.Soles.{value_here, value_beside}
use Rattle.packed_cells.proofs.sole_cell.SoleCell.value.Goals as goal

pub returns-then-is_of : goal.returns-then-is_of
returns-then-is_of c =
    let same = c.is_of.ensures.0 c.if-is_of.true in
    ap (λ (x : List ℕ). Some x) c.bytes.ensures ∙ value_here c.args.self.now.qual c.args.self.now.value c.args.self.now.version
    ∙ ap (λ (q : List ℕ). option_map (λ (y : List ℕ × ℕ). y.0) (get (sole_map c.args.self.now) q)) (sym same)

pub returns-else-is_of : goal.returns-else-is_of
returns-else-is_of c = value_beside c.args.self.now.qual c.args.qual.now (c.args.self.now.value, c.args.self.now.version) (λ e. let conflict : true ≡ false = sym (c.is_of.ensures.1 e) ∙ c.if-is_of.false in cc)
