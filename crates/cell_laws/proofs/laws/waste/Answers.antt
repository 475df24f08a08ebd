use Rattle.cell_laws.proofs.Wasting.{waste as all_waste}
use Rattle.cell_laws.proofs.laws.waste.Goals as goal

pub returns : goal.returns
returns c = all_waste
