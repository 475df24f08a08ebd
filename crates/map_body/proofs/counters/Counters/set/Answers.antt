use Rattle.map_body.proofs.Counted.{set_metric, set_tag_key, set_tag_value}
use Rattle.map_body.proofs.counters.Counters.set.Goals as goal

pub returns-in-Metric : goal.returns-in-Metric
returns-in-Metric c = rw (c.in-Metric.is, ← c.self.view_is) (set_metric c.self.inside.metric c.self.inside.tag_key c.self.inside.tag_value (record { number = c.args.number; version = c.args.version }) c.requires)

pub returns-in-TagKey : goal.returns-in-TagKey
returns-in-TagKey c = rw (c.in-TagKey.is, ← c.self.view_is) (set_tag_key c.self.inside.metric c.self.inside.tag_key c.self.inside.tag_value (record { number = c.args.number; version = c.args.version }) c.requires)

pub returns-in-TagValue : goal.returns-in-TagValue
returns-in-TagValue c = rw (c.in-TagValue.is, ← c.self.view_is) (set_tag_value c.self.inside.metric c.self.inside.tag_key c.self.inside.tag_value (record { number = c.args.number; version = c.args.version }) c.requires)
