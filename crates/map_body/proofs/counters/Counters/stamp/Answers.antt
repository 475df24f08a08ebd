use Rattle.std.proofs.Common.{ℕ, List, ◌++◌, ap}
use Rattle.tsd_base.specs.declared.kinds.Kind.TheVariants.{Metric, TagKey, TagValue}
use Rattle.map_body.specs.Counting.{shown, counter_cells}
use Rattle.map_body.proofs.Counted.{get_kind, set_metric, set_tag_key, set_tag_value, with_version, stamp_shown}
use Rattle.map_body.proofs.counters.Counters.stamp.Goals as goal
use Rattle.std.specs.FinMap.{from_entries}

pub returns-in-Metric : goal.returns-in-Metric
returns-in-Metric c =
    rw (c.in-Metric.is, ← c.self.view_is)
    (stamp_shown Metric (counter_cells c.self.inside.metric c.self.inside.tag_key c.self.inside.tag_value) (counter_cells (with_version c.self.inside.metric c.args.version) c.self.inside.tag_key c.self.inside.tag_value) c.self.inside.metric c.args.version (get_kind Metric c.self.inside.metric c.self.inside.tag_key c.self.inside.tag_value)
    (ap (λ (x : List (List ℕ × (List ℕ × ℕ))). from_entries (x ++ (shown TagKey c.self.inside.tag_key ++ shown TagValue c.self.inside.tag_value))))
    (λ least. set_metric c.self.inside.metric c.self.inside.tag_key c.self.inside.tag_value (with_version c.self.inside.metric c.args.version) least))

pub returns-in-TagKey : goal.returns-in-TagKey
returns-in-TagKey c =
    rw (c.in-TagKey.is, ← c.self.view_is)
    (stamp_shown TagKey (counter_cells c.self.inside.metric c.self.inside.tag_key c.self.inside.tag_value) (counter_cells c.self.inside.metric (with_version c.self.inside.tag_key c.args.version) c.self.inside.tag_value) c.self.inside.tag_key c.args.version (get_kind TagKey c.self.inside.metric c.self.inside.tag_key c.self.inside.tag_value)
    (ap (λ (x : List (List ℕ × (List ℕ × ℕ))). from_entries (shown Metric c.self.inside.metric ++ (x ++ shown TagValue c.self.inside.tag_value))))
    (λ least. set_tag_key c.self.inside.metric c.self.inside.tag_key c.self.inside.tag_value (with_version c.self.inside.tag_key c.args.version) least))

pub returns-in-TagValue : goal.returns-in-TagValue
returns-in-TagValue c =
    rw (c.in-TagValue.is, ← c.self.view_is)
    (stamp_shown TagValue (counter_cells c.self.inside.metric c.self.inside.tag_key c.self.inside.tag_value) (counter_cells c.self.inside.metric c.self.inside.tag_key (with_version c.self.inside.tag_value c.args.version)) c.self.inside.tag_value c.args.version (get_kind TagValue c.self.inside.metric c.self.inside.tag_key c.self.inside.tag_value)
    (ap (λ (x : List (List ℕ × (List ℕ × ℕ))). from_entries (shown Metric c.self.inside.metric ++ (shown TagKey c.self.inside.tag_key ++ x))))
    (λ least. set_tag_value c.self.inside.metric c.self.inside.tag_key c.self.inside.tag_value (with_version c.self.inside.tag_value c.args.version) least))
