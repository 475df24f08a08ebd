use Rattle.std.proofs.Common.{take}
use Rattle.row_scan.proofs.PointsAtTimes.{AreRead}
use Rattle.row_scan.proofs.row_times.rising_points.Given as goal

abbrev pub invariant-loop-i : goal.invariant-loop-i
invariant-loop-i g l = AreRead (take l.i l.cells) l.base l.first l.last l.least l.points
