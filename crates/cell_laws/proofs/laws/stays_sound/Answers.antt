use Rattle.cell_laws.proofs.Sounding.{stays_sound as sound_after}
use Rattle.cell_laws.proofs.laws.stays_sound.Goals as goal

pub returns : goal.returns
returns c = sound_after
