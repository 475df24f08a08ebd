use Rattle.row_scan.proofs.PointsAtTimes.{next_above}
use Rattle.row_scan.proofs.row_times.points_of.Goals as goal

pub push-requires : goal.push-requires
push-requires c = next_above c.args.base c.args.dots.now c.loop-dot.dot-index _ c.loop-dot.points c.loop-dot-test.true c.requires c.loop-dot.invariant
