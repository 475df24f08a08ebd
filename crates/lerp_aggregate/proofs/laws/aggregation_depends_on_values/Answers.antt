use Rattle.lerp_aggregate.proofs.Alike.{aggregated_alike}
use Rattle.lerp_aggregate.proofs.laws.aggregation_depends_on_values.Goals as goal

pub returns : goal.returns
returns c = aggregated_alike
