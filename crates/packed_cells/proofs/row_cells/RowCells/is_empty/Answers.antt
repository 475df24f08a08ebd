use Rattle.packed_cells.proofs.Keyed.{empty_at_none, none_at_empty, zero_at, at_zero}
use Rattle.packed_cells.proofs.row_cells.RowCells.is_empty.Goals as goal

pub returns : goal.returns
returns c = (λ t. empty_at_none c.args.self.now c.len.result c.len.ensures (zero_at c.len.result t), λ e. at_zero c.len.result (none_at_empty c.args.self.now c.len.result c.len.ensures e))
