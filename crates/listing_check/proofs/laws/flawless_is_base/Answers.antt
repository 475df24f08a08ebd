use Rattle.listing_check.proofs.SoundCells.{flawless_is_base, flawless_loads}
use Rattle.listing_check.proofs.laws.flawless_is_base.Goals as goal

pub returns : goal.returns
returns c = record { base = flawless_is_base; loads = flawless_loads }
