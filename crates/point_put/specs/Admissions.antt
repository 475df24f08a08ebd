-- Which new names may come into being.
use Rattle.std.specs.Prelude.{◌≡◌, ℕ, true, List}
use Rattle.tsd_base.specs.declared.kinds.Kind.{Kind}
use Rattle.tsd_hooks.specs.declared.name_patterns.Patterns.{Patterns}
use Rattle.tsd_hooks.specs.AllowedNames.{allowed}
use Rattle.point_put.specs.declared.config.Config.{Config}
use Rattle.point_put.specs.Configs.{makes}

-- the kinds whose names are given ids when a point is put, and the patterns that a new name has to begin with
pub record Admission : Type 0 where
  pub config : Config
  pub patterns : Patterns

abbrev pub admission : Config → Patterns → Admission
admission config patterns = record { config = config; patterns = patterns }

-- names of the kind are given ids, and the patterns allow this one
abbrev pub IsAdmitted : Admission → Kind → List ℕ → Type 0
IsAdmitted c kind name = (makes c.config kind ≡ true) × (allowed c.patterns kind name ≡ true)
