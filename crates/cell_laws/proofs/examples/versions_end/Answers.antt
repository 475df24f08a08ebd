use Rattle.cell_laws.proofs.Worked.{versions_end as worked}
use Rattle.cell_laws.proofs.examples.versions_end.Goals as goal

pub returns : goal.returns
returns c = worked
