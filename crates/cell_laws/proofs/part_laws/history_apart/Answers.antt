use Rattle.cell_laws.proofs.Parts.{history_apart}
use Rattle.cell_laws.proofs.part_laws.history_apart.Goals as goal

pub returns : goal.returns
returns c = history_apart
