use Rattle.cell_laws.proofs.Sounding.{row_ids_are_taken as all_taken}
use Rattle.cell_laws.proofs.laws.row_ids_are_taken.Goals as goal

pub returns : goal.returns
returns c = all_taken
