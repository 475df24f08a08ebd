use Rattle.std.proofs.Common.{arith}
use Rattle.tsd_base.specs.declared.kinds.Kind.TheVariants.{Metric, TagKey, TagValue}
use Rattle.map_body.proofs.Counted.{number_is}
use Rattle.map_body.proofs.counters.Counters.number.Goals as goal

pub returns-in-Metric : goal.returns-in-Metric
returns-in-Metric c = rw (c.in-Metric.is, ← c.self.view_is) (number_is Metric c.self.inside.metric c.self.inside.tag_key c.self.inside.tag_value (omega (arith, c.self.invariant)))

pub returns-in-TagKey : goal.returns-in-TagKey
returns-in-TagKey c = rw (c.in-TagKey.is, ← c.self.view_is) (number_is TagKey c.self.inside.metric c.self.inside.tag_key c.self.inside.tag_value (omega (arith, c.self.invariant)))

pub returns-in-TagValue : goal.returns-in-TagValue
returns-in-TagValue c = rw (c.in-TagValue.is, ← c.self.view_is) (number_is TagValue c.self.inside.metric c.self.inside.tag_key c.self.inside.tag_value (omega (arith, c.self.invariant)))
