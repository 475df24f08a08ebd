use Rattle.qual_codec.proofs.Ordering.{at_most_antisym}
use Rattle.qual_codec.proofs.laws.order_is_antisymmetric.Goals as goal

pub returns : goal.returns
returns c = at_most_antisym
