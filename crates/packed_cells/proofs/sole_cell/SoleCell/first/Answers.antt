use Rattle.std.proofs.Common.{ap}
use Rattle.packed_cells.specs.SoleCells.{sole_map}
use Rattle.packed_cells.proofs.sole_cell.SoleCell.first.Goals as goal

pub returns-in-Some : goal.returns-in-Some
returns-in-Some c = ap sole_map c.in-Some.ensures.cell
