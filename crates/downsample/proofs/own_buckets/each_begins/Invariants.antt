use Rattle.std.proofs.Common.{◌≤◌, length}
use Rattle.std.specs.List.{AllWithin}
use Rattle.downsample.specs.Downsampling.{Begins}
use Rattle.downsample.proofs.own_buckets.each_begins.Given as goal

abbrev pub invariant-loop-dot : goal.invariant-loop-dot
invariant-loop-dot l = record {
  begin : AllWithin (Begins l.interval) l.list 0 l.dot-index;
  within : l.dot-index ≤ length l.list;
}
