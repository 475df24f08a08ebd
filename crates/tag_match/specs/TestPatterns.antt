-- Patterns of tests.
use Rattle.std.specs.Prelude.{◌≡◌, ℕ, ◌<◌, Bool, false, not, List, All, Option, None, Some, is_some}
use Rattle.std.specs.Option.{option_map}
use Rattle.query_text.specs.declared.queries.Test.{Test}
use Rattle.query_text.specs.declared.queries.Test.TheVariants.{Any, OneOf, NotOneOf, Wild, Pattern}
use Rattle.query_text.specs.declared.queries.Filter.{Filter}
use Rattle.regex.specs.Patterns.{Re, find_str}
use Rattle.regex.specs.Strings.{regex_pattern, matcher_pattern}
use Rattle.regex.specs.declared.string.regex.Regex.{Regex}
use Rattle.regex.specs.declared.string.matcher.Matcher.{Matcher}
use Rattle.group_by.specs.TagFilters.{passes_test, is_pattern}
use Rattle.tag_match.specs.Patterns.{finds, is_read}

abbrev pub is_bad_test : Test → Bool
is_bad_test Any = false
is_bad_test (OneOf names) = false
is_bad_test (NotOneOf names) = false
is_bad_test (Wild text) = false
is_bad_test (Pattern text) = not (is_read text)

-- the filter has a pattern for which the engine answers a syntax error
abbrev pub is_bad : Filter → Bool
is_bad f = is_bad_test f.test

-- where there is an expression, it is found in the values that pass the test
abbrev pub JudgesAs : Option Re → Test → Type 0
JudgesAs sought test = (re : Re) → sought ≡ Some re → (value : List ℕ) → All (λ b. b < 256) value → is_some (find_str re value 0) ≡ passes_test finds test value

-- where there is none, the test is no pattern
abbrev pub IsPlain : Option Re → Test → Type 0
IsPlain sought test = sought ≡ None → is_pattern test ≡ false

-- what a regular expression, or what searches for one, looks for
abbrev pub pattern_in : Option Regex → Option Re
pattern_in regex = option_map regex_pattern regex

abbrev pub sought_by : Option Matcher → Option Re
sought_by matcher = option_map matcher_pattern matcher
