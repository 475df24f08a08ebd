use Rattle.cell_laws.proofs.Worked.{next_row_ends as worked}
use Rattle.cell_laws.proofs.examples.next_row_ends.Goals as goal

pub returns : goal.returns
returns c = worked
