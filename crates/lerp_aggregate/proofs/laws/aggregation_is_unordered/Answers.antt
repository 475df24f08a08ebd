use Rattle.lerp_aggregate.proofs.Unordered.{aggregated_unordered}
use Rattle.lerp_aggregate.proofs.laws.aggregation_is_unordered.Goals as goal

pub returns : goal.returns
returns c = aggregated_unordered
