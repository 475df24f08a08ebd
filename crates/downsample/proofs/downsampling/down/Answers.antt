use Rattle.tsd_base.specs.declared.kinds.Fill.TheVariants.{NoFill, Zero}
use Rattle.downsample.proofs.Order.{given_of}
use Rattle.downsample.proofs.downsampling.down.Goals as goal

pub returns-in-NoFill : goal.returns-in-NoFill
returns-in-NoFill c = given_of c.args.how c.args.start c.args.end c.args.dots.now c.list.result.now NoFill c.of_points.result c.list.ensures.list c.list.ensures.rising c.in-NoFill.is c.of_points.ensures

pub returns-in-Zero : goal.returns-in-Zero
returns-in-Zero c = given_of c.args.how c.args.start c.args.end c.args.dots.now c.list-in-Zero.result.now Zero c.of_all.result c.list-in-Zero.ensures.list c.list-in-Zero.ensures.rising c.in-Zero.is c.of_all.ensures
