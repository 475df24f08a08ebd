use Rattle.qual_codec.proofs.Ordering.{below_extends}
use Rattle.qual_codec.proofs.laws.below_extends.Goals as goal

pub returns : goal.returns
returns c = below_extends
