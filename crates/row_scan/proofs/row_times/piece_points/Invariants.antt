use Rattle.std.proofs.Common.{length}
use Rattle.row_scan.proofs.PointsAtTimes.{ArePiecesRead}
use Rattle.row_scan.proofs.row_times.piece_points.Given as goal

abbrev pub invariant-pieces : goal.invariant-pieces
invariant-pieces l = ArePiecesRead l.value l.rest l.base l.first l.last l.least l.points

abbrev pub decreases-pieces : goal.decreases-pieces
decreases-pieces l = length l.rest
