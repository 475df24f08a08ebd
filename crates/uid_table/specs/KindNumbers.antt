-- Kinds as numbers, by which keys are hashed.
use Rattle.std.specs.Prelude.{ℕ}
use Rattle.tsd_base.specs.declared.kinds.Kind.{Kind}
use Rattle.tsd_base.specs.declared.kinds.Kind.TheVariants.{Metric, TagKey, TagValue}

abbrev pub kind_number : Kind → ℕ
kind_number Metric = 0
kind_number TagKey = 1
kind_number TagValue = 2
