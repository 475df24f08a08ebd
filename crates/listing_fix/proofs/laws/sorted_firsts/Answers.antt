use Rattle.listing_fix.proofs.Sorting.{sorted_firsts}
use Rattle.listing_fix.proofs.laws.sorted_firsts.Goals as goal

pub returns : goal.returns
returns c = sorted_firsts
