use Rattle.row_key.proofs.Comparing.{hours_are_between}
use Rattle.row_key.proofs.laws.hours_are_range.Goals as goal

pub returns : goal.returns
returns c = hours_are_between
