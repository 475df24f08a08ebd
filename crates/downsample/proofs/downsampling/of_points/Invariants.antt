use Rattle.std.proofs.Common.{length, ◌-◌}
use Rattle.downsample.proofs.Loops.{Points}
use Rattle.downsample.proofs.downsampling.of_points.Given as goal

abbrev pub invariant-loop-at : goal.invariant-loop-at
invariant-loop-at l = Points l.function l.interval l.list l.dots l.at

abbrev pub decreases-loop-at : goal.decreases-loop-at
decreases-loop-at l = length l.list - l.at
