use Rattle.std.proofs.Common.{◌∙◌}
use Rattle.packed_cells.specs.SoleCells.{sole_map}
use Rattle.packed_cells.proofs.Keyed.{again_map}
use Rattle.packed_cells.proofs.sole_cell.SoleCell.plain.Goals as goal

pub returns : goal.returns
returns c = c.of.ensures ∙ again_map (sole_map c.args.self.now) c.in_ok-again.field-0 c.in_ok-again.ensures.rises c.in_ok-again.ensures.same
