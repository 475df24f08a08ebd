use Rattle.std.proofs.Common.{sym}
use Rattle.lerp_aggregate.proofs.CallerLemmas.{length-times}
use Rattle.downsample.proofs.intervals.buckets.Goals as goal

pub returns : goal.returns
returns c = sym (length-times c.args.interval _ _)
