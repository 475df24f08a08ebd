use Rattle.row_key.proofs.Homes.{whole_metrics}
use Rattle.row_key.proofs.laws.metrics_are_whole.Goals as goal

pub returns : goal.returns
returns c = whole_metrics
