use Rattle.std.proofs.Common.{length, ◌-◌, ◌≤◌, ◌<◌, ◌+◌}
use Rattle.std.specs.List.{AllWithin}
use Rattle.downsample.proofs.intervals.behind_bucket.Given as goal

abbrev pub invariant-loop-at : goal.invariant-loop-at
invariant-loop-at l = record {
  from : l.from ≤ l.at;
  within : l.at ≤ length l.list;
  passed : AllWithin (λ p. p.0 < l.bucket + l.interval) l.list l.from l.at;
}

abbrev pub decreases-loop-at : goal.decreases-loop-at
decreases-loop-at l = length l.list - l.at
