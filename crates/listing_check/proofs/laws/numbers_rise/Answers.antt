use Rattle.listing_check.proofs.RisingNumbers.{numbers_rise}
use Rattle.listing_check.proofs.laws.numbers_rise.Goals as goal

pub returns : goal.returns
returns c = numbers_rise
