use Rattle.downsample.proofs.Owning.{own_buckets}
use Rattle.downsample.proofs.own_buckets.down_owned.Goals as goal

pub returns-then-are_buckets : goal.returns-then-are_buckets
returns-then-are_buckets c = own_buckets c.args.how c.args.start c.args.end c.args.dots c.list.result.now c.list.ensures.list c.list.ensures.rising c.if-are_buckets.ensures
