use Rattle.std.proofs.Common.{◌≡◌, length, true, false, None, sym, ap, ◌∙◌}
use Rattle.std.specs.FinMap.{get}
use Rattle.packed_cells.specs.SoleCells.{sole_map}
use Rattle.packed_cells.proofs.Soles.{set_over, held_value, get_beside}
use Rattle.packed_cells.proofs.sole_cell.SoleCell.set.Goals as goal

pub returns-then-is_of-clause-cells : goal.returns-then-is_of-clause-cells
returns-then-is_of-clause-cells c =
    set_over c.args.self.now c.args.qual.now c.args.value.now c.args.version c.set_value.result c.set_value.new.self (c.is_of.ensures.0 c.if-is_of.true) c.set_value.ensures.cell

pub returns-then-is_of-clause-in_place : goal.returns-then-is_of-clause-in_place
returns-then-is_of-clause-in_place c v n is same =
    c.set_value.ensures.same (sym same ∙ ap length (held_value c.args.self.now c.args.qual.now v n (c.is_of.ensures.0 c.if-is_of.true) is))

pub returns-else-is_of-clause-in_place : goal.returns-else-is_of-clause-in_place
returns-else-is_of-clause-in_place c v n is same =
    let absent : get (sole_map c.args.self.now) c.args.qual.now ≡ None = get_beside c.args.self.now.qual c.args.qual.now (c.args.self.now.value, c.args.self.now.version) (λ e. let conflict : true ≡ false = sym (c.is_of.ensures.1 e) ∙ c.if-is_of.false in cc) in
    cc
