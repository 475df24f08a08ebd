use Rattle.std.proofs.Common.{arith}
use Rattle.downsample.proofs.Owning.{begins_here}
use Rattle.downsample.proofs.own_buckets.begins.Goals as goal

pub returns : goal.returns
returns c = begins_here c.args.interval c.bucket_of.result c.args.time c.args._value c.bucket_of.ensures (omega (arith, c.if-bucket_of-time.false)) c.ranges._value
