use Rattle.downsample.proofs.Order.{alike}
use Rattle.downsample.proofs.laws.downsampling_depends_on_values.Goals as goal

pub returns : goal.returns
returns c = alike
