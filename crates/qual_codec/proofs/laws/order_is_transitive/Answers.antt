use Rattle.qual_codec.proofs.Ordering.{at_most_trans}
use Rattle.qual_codec.proofs.laws.order_is_transitive.Goals as goal

pub returns : goal.returns
returns c = at_most_trans
