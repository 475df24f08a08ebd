use Rattle.std.proofs.Common.{◌≡◌, ℕ, List, true, false, sym, ap, ◌∙◌}
use Rattle.packed_cells.specs.Keyed.{stamped}
use Rattle.packed_cells.specs.SoleCells.{sole_map}
use Rattle.packed_cells.proofs.Soles.{stamp_here, stamp_beside}
use Rattle.packed_cells.proofs.sole_cell.SoleCell.stamp.Goals as goal

pub returns-then-is_of : goal.returns-then-is_of
returns-then-is_of c =
    let same = c.is_of.ensures.0 c.if-is_of.true in
    ap sole_map c.set_version.ensures ∙ stamp_here c.args.self.now.qual c.args.self.now.value c.args.self.now.version c.args.version
    ∙ ap (λ (q : List ℕ). stamped (sole_map c.args.self.now) q c.args.version) (sym same)

pub returns-else-is_of : goal.returns-else-is_of
returns-else-is_of c = stamp_beside c.args.self.now.qual c.args.qual.now (c.args.self.now.value, c.args.self.now.version) c.args.version (λ e. let conflict : true ≡ false = sym (c.is_of.ensures.1 e) ∙ c.if-is_of.false in cc)
