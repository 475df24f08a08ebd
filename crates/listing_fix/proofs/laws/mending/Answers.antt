use Rattle.listing_fix.proofs.Mending.{fixed_is_sound}
use Rattle.listing_fix.proofs.Unmended.{sound_stays}
use Rattle.listing_fix.proofs.laws.mending.Goals as goal

pub returns : goal.returns
returns c = record { sound = fixed_is_sound; stays = sound_stays }
