use Rattle.cell_laws.proofs.Known.{known_is_allowed as all_known, known_entry_is_allowed}
use Rattle.cell_laws.proofs.laws.known_is_allowed.Goals as goal

pub returns : goal.returns
returns c = record { step = all_known; entry = known_entry_is_allowed }
