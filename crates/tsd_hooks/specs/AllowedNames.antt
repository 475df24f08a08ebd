-- Which new names are allowed.
use Rattle.std.specs.Prelude.{◌≡◌, ℕ, Bool, true, List, Option, None, Some, nat_eq}
use Rattle.std.specs.List.{starts_with}
use denote.Ref.{Bor}
use Rattle.tsd_base.specs.declared.kinds.Kind.{Kind}
use Rattle.tsd_base.specs.declared.kinds.Kind.TheVariants.{Metric, TagKey, TagValue}
use Rattle.tsd_hooks.specs.declared.name_patterns.Patterns.{Patterns}

-- the pattern of a kind
abbrev pub pattern_of : Patterns → Kind → Option (List ℕ)
pattern_of patterns Metric = patterns.metric
pattern_of patterns TagKey = patterns.tag_key
pattern_of patterns TagValue = patterns.tag_value

-- there is no pattern, or the bytes begin with it
abbrev pub begins : Option (List ℕ) → List ℕ → Bool
begins None bytes = true
begins (Some pattern) bytes = starts_with nat_eq bytes pattern

-- whether a name of the kind is allowed
abbrev pub allowed : Patterns → Kind → List ℕ → Bool
allowed patterns kind name = begins (pattern_of patterns kind) name

-- each answer that may be given is what the patterns say
abbrev pub AnswersBy : Patterns → (Kind → Bor (List ℕ) → Bool → Type 0) → Type 0
AnswersBy patterns gives = (kind : Kind) (name : Bor (List ℕ)) (answer : Bool) → gives kind name answer → answer ≡ allowed patterns kind name.now
