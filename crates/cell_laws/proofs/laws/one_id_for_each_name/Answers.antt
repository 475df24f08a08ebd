use Rattle.cell_laws.proofs.LawsHold.{keeps_id, one_name, names_back}
use Rattle.cell_laws.proofs.laws.one_id_for_each_name.Goals as goal

pub returns : goal.returns
returns c = record { keeps = keeps_id; one = one_name; back = names_back }
