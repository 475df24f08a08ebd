use Rattle.std.proofs.Common.{◌+◌}
use Rattle.query_text.proofs.Intervals.{interval_of_sub}
use Rattle.query_text.proofs.subs.read_m.Goals as goal

pub returns-in-Some-aggregator_named-clause-interval : goal.returns-in-Some-aggregator_named-clause-interval
returns-in-Some-aggregator_named-clause-interval c = interval_of_sub c.args.ms c.args.text.now (c.in-Some.colon + 1) c.in-Some-aggregator_named.how c.behind_aggregator.result c.behind_aggregator.ensures
