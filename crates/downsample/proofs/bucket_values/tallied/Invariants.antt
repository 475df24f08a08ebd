use Rattle.std.proofs.Common.{◌≤◌, length, map, take}
use Rattle.lerp_aggregate.specs.Tally.{Counts}
use Rattle.downsample.proofs.bucket_values.tallied.Given as goal

abbrev pub invariant-loop-point : goal.invariant-loop-point
invariant-loop-point l = record {
  counts : Counts l.tally (map (λ p. p.1) (take l.point-index l.points));
  within : l.point-index ≤ length l.points;
}
