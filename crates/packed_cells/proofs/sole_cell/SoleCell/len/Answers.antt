use Rattle.packed_cells.proofs.Soles.{sole_len}
use Rattle.packed_cells.proofs.sole_cell.SoleCell.len.Goals as goal

pub returns : goal.returns
returns c = sole_len c.args.self.now
