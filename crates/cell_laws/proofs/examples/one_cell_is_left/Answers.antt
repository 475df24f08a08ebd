use Rattle.cell_laws.proofs.Compacted.{one_cell_is_left as worked}
use Rattle.cell_laws.proofs.examples.one_cell_is_left.Goals as goal

pub returns : goal.returns
returns c = worked
