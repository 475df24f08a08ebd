use Rattle.cell_laws.proofs.Whole.{parts_tell_store}
use Rattle.cell_laws.proofs.part_laws.parts_tell_store.Goals as goal

pub returns : goal.returns
returns c = parts_tell_store
