use Rattle.std.proofs.Common.{◌≡◌, Err, subst, rules}
use Rattle.lerp_aggregate.specs.declared.aggregation.AggFault.{AggFault}
use Rattle.lerp_aggregate.specs.declared.aggregation.AggFault.TheVariants.{Overflow}
use Rattle.series_groups.specs.NamedSeries.{points_in}
use Rattle.series_groups.specs.SeriesGroups.{GivesGroups}
use Rattle.series_groups.specs.QueryAnswers.{answer, down_by}
use Rattle.series_groups.specs.KeptSeries.{all_with_points}
use Rattle.query_run.proofs.Grouped.{are_series}
use Rattle.query_run.proofs.sub_query.groups.Goals as goal

pub titled-requires : goal.titled-requires
titled-requires c =
    let q = c.args.query.now in
    let s = c.args.sub.now in
    let are = c.requires.collected.1 in
    (down_by q.ms s.how s.down, c.requires.collected.0, are.keeps, are.names)

pub groups_of-requires-clause-series : goal.groups_of-requires-clause-series
groups_of-requires-clause-series c =
    let q = c.args.query.now in
    let s = c.args.sub.now in
    let are = c.requires.collected.1 in
    let t = c.in_ok-series.ensures (down_by q.ms s.how s.down) c.requires.collected.0 are.keeps are.names in
    (t.of, are_series q s c.args.collected c.requires.collected.0 c.in_ok-series.series.items are t)

pub returns-in-Ok-clause-says : goal.returns-in-Ok-clause-says
returns-in-Ok-clause-says c = λ spans are.
    let q = c.args.query.now in
    let s = c.args.sub.now in
    let t = c.in_ok-series.ensures (down_by q.ms s.how s.down) spans are.keeps are.names in
    (all_with_points t.of c.in_ok-series.series.items, t.titles, c.in-Ok.ensures.answers t.of (are_series q s c.args.collected spans c.in_ok-series.series.items are t))

pub returns-in-Err-Overflow-clause-says : goal.returns-in-Err-Overflow-clause-says
returns-in-Err-Overflow-clause-says c = λ spans are.
    let q = c.args.query.now in
    let s = c.args.sub.now in
    let t = c.in_ok-series.ensures (down_by q.ms s.how s.down) spans are.keeps are.names in
    let wanted = answer q s (points_in s.metric (all_with_points t.of c.in_ok-series.series.items)) in
    let same : c.in-Err-Overflow.field-0 ≡ Overflow c.in-Err-Overflow.time = search rules in (
      all_with_points t.of c.in_ok-series.series.items,
      t.titles,
      subst (λ (fault : AggFault). GivesGroups (Err fault) wanted) same (c.in-Err-Overflow.ensures.answers t.of (are_series q s c.args.collected spans c.in_ok-series.series.items are t)),
    )
