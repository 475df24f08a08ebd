use Rattle.std.proofs.Common.{◌≡◌, ℕ, List, true, false, sym, ap, ◌∙◌}
use Rattle.std.specs.Prelude.{nat_le}
use Rattle.std.specs.FinMap.{get}
use Rattle.packed_cells.specs.Keyed.{goes, without}
use Rattle.packed_cells.specs.SoleCells.{sole_map}
use Rattle.packed_cells.proofs.Soles.{goes_here, goes_beside, left_here, left_beside}
use Rattle.packed_cells.proofs.sole_cell.SoleCell.goes.Goals as goal

pub returns-then-is_of-clause-gone : goal.returns-then-is_of-clause-gone
returns-then-is_of-clause-gone c =
    let same = c.is_of.ensures.0 c.if-is_of.true in
    ap (λ (n : ℕ). nat_le n c.args.version) c.version.ensures ∙ goes_here c.args.self.now.qual c.args.self.now.value c.args.self.now.version c.args.version
    ∙ ap (λ (q : List ℕ). goes (get (sole_map c.args.self.now) q) c.args.version) (sym same)

pub returns-then-is_of-clause-rest : goal.returns-then-is_of-clause-rest
returns-then-is_of-clause-rest c =
    let same = c.is_of.ensures.0 c.if-is_of.true in
    let gone : nat_le c.version.result c.args.version ≡ goes (get (sole_map c.args.self.now) c.args.self.now.qual) c.args.version =
    ap (λ (n : ℕ). nat_le n c.args.version) c.version.ensures ∙ goes_here c.args.self.now.qual c.args.self.now.value c.args.self.now.version c.args.version in
    ap (λ (q : List ℕ). without (sole_map c.args.self.now) q c.args.version) same
    ∙ left_here c.args.self.now.qual (c.args.self.now.value, c.args.self.now.version) c.args.version (nat_le c.version.result c.args.version) gone

pub returns-else-is_of-clause-gone : goal.returns-else-is_of-clause-gone
returns-else-is_of-clause-gone c = goes_beside c.args.self.now.qual c.args.qual.now (c.args.self.now.value, c.args.self.now.version) c.args.version (λ e. let conflict : true ≡ false = sym (c.is_of.ensures.1 e) ∙ c.if-is_of.false in cc)

pub returns-else-is_of-clause-rest : goal.returns-else-is_of-clause-rest
returns-else-is_of-clause-rest c = left_beside c.args.self.now.qual c.args.qual.now (c.args.self.now.value, c.args.self.now.version) c.args.version (λ e. let conflict : true ≡ false = sym (c.is_of.ensures.1 e) ∙ c.if-is_of.false in cc)
