use Rattle.cell_laws.proofs.Placing.{first_is_lawful, entries_are_lawful as each_entry}
use Rattle.cell_laws.proofs.laws.entries_are_lawful.Goals as goal

pub returns : goal.returns
returns c = record { first = first_is_lawful; each = each_entry }
