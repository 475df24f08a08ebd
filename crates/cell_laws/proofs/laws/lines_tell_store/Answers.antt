use Rattle.cell_laws.proofs.Lining.{lines_tell_store}
use Rattle.cell_laws.proofs.laws.lines_tell_store.Goals as goal

pub returns : goal.returns
returns c = lines_tell_store
