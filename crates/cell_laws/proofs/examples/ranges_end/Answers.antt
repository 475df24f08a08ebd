use Rattle.cell_laws.proofs.Worked.{ranges_end as worked}
use Rattle.cell_laws.proofs.examples.ranges_end.Goals as goal

pub returns : goal.returns
returns c = worked
