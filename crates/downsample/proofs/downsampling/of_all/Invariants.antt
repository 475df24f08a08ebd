use Rattle.downsample.specs.Buckets.{all_buckets}
use Rattle.downsample.specs.Downsampling.{valued}
use Rattle.downsample.proofs.Loops.{Buckets}
use Rattle.downsample.proofs.downsampling.of_all.Given as goal

abbrev pub invariant-loop-k : goal.invariant-loop-k
invariant-loop-k l = Buckets l.function l.interval l.list l.dots l.at l.first l.k l.k-end (valued l.function l.interval l.list (all_buckets l.interval l.start l.end))
