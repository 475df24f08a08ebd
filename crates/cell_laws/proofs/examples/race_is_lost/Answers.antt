use Rattle.cell_laws.proofs.Worked.{race_is_lost as race}
use Rattle.cell_laws.proofs.examples.race_is_lost.Goals as goal

pub returns : goal.returns
returns c = race
