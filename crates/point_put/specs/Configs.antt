-- Which names are given ids.
use Rattle.std.specs.Prelude.{Bool}
use Rattle.tsd_base.specs.declared.kinds.Kind.{Kind}
use Rattle.tsd_base.specs.declared.kinds.Kind.TheVariants.{Metric, TagKey, TagValue}
use Rattle.point_put.specs.declared.config.Config.{Config}

-- whether names of the kind are given ids
abbrev pub makes : Config → Kind → Bool
makes c Metric = c.auto_metric
makes c TagKey = c.auto_tag_key
makes c TagValue = c.auto_tag_value
