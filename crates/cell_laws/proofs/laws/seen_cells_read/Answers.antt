use Rattle.cell_laws.proofs.Placing.{seen_cell_reads}
use Rattle.cell_laws.proofs.laws.seen_cells_read.Goals as goal

pub returns : goal.returns
returns c = seen_cell_reads
