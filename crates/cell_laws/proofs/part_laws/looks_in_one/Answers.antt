use Rattle.cell_laws.proofs.Looks.{looks_in_one}
use Rattle.cell_laws.proofs.part_laws.looks_in_one.Goals as goal

pub returns : goal.returns
returns c = looks_in_one
