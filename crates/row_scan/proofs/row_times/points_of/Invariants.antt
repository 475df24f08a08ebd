use Rattle.std.proofs.Common.{◌≡◌, take}
use Rattle.std.specs.Prelude.{map}
use Rattle.row_scan.specs.RowTimes.{dot_at}
use Rattle.row_scan.proofs.row_times.points_of.Given as goal

abbrev pub invariant-loop-dot : goal.invariant-loop-dot
invariant-loop-dot l = l.points ≡ map (dot_at l.base) (take l.dot-index l.dots)
