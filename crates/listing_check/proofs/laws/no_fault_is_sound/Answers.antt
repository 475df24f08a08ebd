use Rattle.listing_check.proofs.Faultless.{no_fault_is_sound}
use Rattle.listing_check.proofs.laws.no_fault_is_sound.Goals as goal

pub returns : goal.returns
returns c = no_fault_is_sound
