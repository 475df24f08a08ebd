use Rattle.packed_cells.proofs.Keyed.{empty_at_none, zero_at}
use Rattle.packed_cells.proofs.even_cells.EvenCells.has_none.Goals as goal

pub returns : goal.returns
returns c t = empty_at_none c.args.self.now c.len.result c.len.ensures (zero_at c.len.result t)
