use Rattle.std.proofs.Common.{List, ℕ, map, sym, subst}
use Rattle.std.specs.Prelude.{All}
use Rattle.lerp_aggregate.specs.Aggregation.{GivesAggregate, aggregated}
use Rattle.lerp_aggregate.specs.FilledGroups.{IsOn, filled}
use Rattle.series_groups.proofs.Filling.{times_are, times_early}
use Rattle.series_groups.proofs.series_groups.aggregate_in.Goals as goal

pub aggregate_filled-requires-clause-times : goal.aggregate_filled-requires-clause-times
aggregate_filled-requires-clause-times c =
    let q = c.args.query.now in
    times_early c.args.interval q.start q.end c.bucket_of-first.result c.buckets-count.result c.bucket_of-first.ensures c.buckets-count.ensures c.requires.interval c.requires.order c.requires.most

pub aggregate_filled-requires-clause-on : goal.aggregate_filled-requires-clause-on
aggregate_filled-requires-clause-on c =
    let q = c.args.query.now in
    subst (λ (times : List ℕ). All (IsOn times) c.args.lists.now) (sym (times_are c.args.interval q.start q.end c.bucket_of-first.result c.buckets-count.result c.bucket_of-first.ensures c.buckets-count.ensures)) c.requires.on

pub returns : goal.returns
returns c =
    let q = c.args.query.now in
    subst (λ (times : List ℕ). GivesAggregate c.aggregate_filled.result (aggregated c.args.how (map (filled times) c.args.lists.now)))
    (times_are c.args.interval q.start q.end c.bucket_of-first.result c.buckets-count.result c.bucket_of-first.ensures c.buckets-count.ensures) c.aggregate_filled.ensures
