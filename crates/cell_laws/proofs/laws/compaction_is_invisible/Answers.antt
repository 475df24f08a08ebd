use Rattle.cell_laws.proofs.Invisible.{compaction_is_invisible as invisible, same_accepted}
use Rattle.cell_laws.proofs.laws.compaction_is_invisible.Goals as goal

pub returns : goal.returns
returns c = record { invisible = invisible; same = same_accepted }
