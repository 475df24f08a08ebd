use Rattle.std.proofs.Common.{arith}
use Rattle.series_meta.proofs.LatestDots.{later_above, later_nothing, later_some}
use Rattle.series_meta.proofs.latest_dot.later.Goals as goal

pub returns-then-most-offset : goal.returns-then-most-offset
returns-then-most-offset c = later_above c.args.latest c.args.offset c.args.most c.if-most-offset.true

pub returns-in-Some : goal.returns-in-Some
returns-in-Some c = later_some c.args.latest c.in-Some.other c.args.offset c.args.most c.max.result c.in-Some.is (let up = c.if-most-offset.false in omega (arith, up)) c.max.ensures

pub returns-in-None : goal.returns-in-None
returns-in-None c = later_nothing c.args.latest c.args.offset c.args.most c.in-None.is (let up = c.if-most-offset.false in omega (arith, up))
