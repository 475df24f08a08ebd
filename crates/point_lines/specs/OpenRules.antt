-- Rules that allow each name.
use Rattle.std.specs.Prelude.{◌≡◌, ℕ, true, List}
use Rattle.tsd_base.specs.declared.kinds.Kind.{Kind}
use Rattle.tsd_hooks.specs.declared.name_patterns.Patterns.{Patterns}
use Rattle.tsd_hooks.specs.AllowedNames.{allowed}

-- each new name of each kind is allowed
pub record AllowsAll (patterns : Patterns) : Type 0 where
  pub allows : (kind : Kind) (name : List ℕ) → allowed patterns kind name ≡ true
