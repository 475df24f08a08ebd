-- Filters over the tags of a series, and what the series of a group share.
use Rattle.std.specs.Prelude.{ℕ, Bool, true, false, not, ◌&&◌, ◌||◌, List, filter}
use Rattle.std.specs.List.{list_any, list_all}
use Rattle.tsd_base.specs.declared.kinds.Aggregator.{Aggregator}
use Rattle.tsd_base.specs.declared.kinds.Aggregator.TheVariants.{Sum, Min, Max, Avg, Count, Zimsum, Mimmin, Mimmax, NoneOf}
use Rattle.tsd_base.specs.TagList.{Pair, is_same}
use Rattle.query_text.specs.declared.queries.Test.{Test}
use Rattle.query_text.specs.declared.queries.Test.TheVariants.{Any, OneOf, NotOneOf, Wild, Pattern}
use Rattle.query_text.specs.declared.queries.Filter.{Filter}
use Rattle.query_text.specs.declared.queries.Sub.{Sub}
use Rattle.group_by.specs.Wildcards.{fits}

-- whether a pattern is found in a value
abbrev pub Finds : Type 0
Finds = List ℕ → List ℕ → Bool

-- the value passes the test
abbrev pub passes_test : Finds → Test → List ℕ → Bool
passes_test finds Any value = true
passes_test finds (OneOf names) value = list_any (is_same value) names
passes_test finds (NotOneOf names) value = not (list_any (is_same value) names)
passes_test finds (Wild text) value = fits text value
passes_test finds (Pattern text) value = finds text value

-- a tag has the filter's key, and its value passes the test
abbrev pub passes_filter : Finds → Filter → List Pair → Bool
passes_filter finds f tags = list_any (λ pair. is_same f.key pair.0 && passes_test finds f.test pair.1) tags

-- the tags pass each filter
abbrev pub passes : Finds → List Filter → List Pair → Bool
passes finds filters tags = list_all (λ f. passes_filter finds f tags) filters

-- no pattern is found in any value
abbrev pub nowhere : Finds
nowhere text value = false

abbrev pub is_pattern : Test → Bool
is_pattern Any = false
is_pattern (OneOf names) = false
is_pattern (NotOneOf names) = false
is_pattern (Wild text) = false
is_pattern (Pattern text) = true

abbrev pub is_none : Aggregator → Bool
is_none Sum = false
is_none Min = false
is_none Max = false
is_none Avg = false
is_none Count = false
is_none Zimsum = false
is_none Mimmin = false
is_none Mimmax = false
is_none NoneOf = true

-- a filter that groups has this key
abbrev pub has_grouping : List ℕ → List Filter → Bool
has_grouping key filters = list_any (λ f. f.group && is_same f.key key) filters

-- each value of the key makes a group: a filter that groups has it, or the aggregator is none
abbrev pub is_grouped : Sub → List ℕ → Bool
is_grouped sub key = is_none sub.how || has_grouping key sub.filters

-- the tags that the series of a group share: those of the grouped keys
abbrev pub group_key : Sub → List Pair → List Pair
group_key sub tags = filter (λ pair. is_grouped sub pair.0) tags
