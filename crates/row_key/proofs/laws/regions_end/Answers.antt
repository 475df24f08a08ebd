use Rattle.row_key.proofs.Homes.{few_regions}
use Rattle.row_key.proofs.laws.regions_end.Goals as goal

pub returns : goal.returns
returns c = few_regions
