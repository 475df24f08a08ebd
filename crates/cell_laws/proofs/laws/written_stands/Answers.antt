use Rattle.cell_laws.proofs.Untouched.{untouched_stays, written_stands}
use Rattle.cell_laws.proofs.laws.written_stands.Goals as goal

pub returns : goal.returns
returns c = record { stays = untouched_stays; stands = written_stands }
