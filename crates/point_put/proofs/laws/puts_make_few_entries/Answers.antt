use Rattle.point_put.proofs.Outcomes.{few_asked}
use Rattle.point_put.proofs.laws.puts_make_few_entries.Goals as goal

pub returns : goal.returns
returns c = few_asked
