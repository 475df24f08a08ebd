use Rattle.cell_laws.proofs.Parts.{after-mine, after-other}
use Rattle.cell_laws.proofs.part_laws.steps_apart.Goals as goal

pub returns : goal.returns
returns c = record { mine = after-mine; other = after-other }
