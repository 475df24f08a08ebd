-- Patterns, as the engine's grammar reads them.
use Rattle.std.specs.Prelude.{◌≡◌, ℕ, Bool, true, false, nat_le, List, Option, None, Some, is_some}
use Rattle.std.specs.Str.{chars}
use Rattle.regex_syntax.specs.Brackets.{Nested}
use Rattle.regex_syntax.specs.Grammar.{Names, read}
use Rattle.regex.specs.Patterns.{Re, find_str, default_config}
use Rattle.regex.specs.Strings.{regex_source, regex_config, IsReadFromSource}
use Rattle.regex.specs.declared.string.regex.Regex.{Regex}
use Rattle.query_text.specs.declared.queries.Filter.{Filter}
use Rattle.tsd_base.specs.TagList.{Pair}
use Rattle.group_by.specs.TagFilters as filters

-- what the grammar reads in a text
abbrev pub read_text : List ℕ → Option (Nested Re × Names)
read_text text = read default_config (chars text)

-- within the limit on nesting
abbrev pub is_within : Option (Nested Re × Names) → Bool
is_within None = false
is_within (Some (re, names)) = nat_le re.depth default_config.nest_limit

-- the grammar reads a pattern in the text, and it isn't nested too deep
abbrev pub is_read : List ℕ → Bool
is_read text = is_within (read_text text)

abbrev pub is_found : Option (Nested Re × Names) → List ℕ → Bool
is_found None value = false
is_found (Some (re, names)) value = is_some (find_str re.value value 0)

-- the pattern that the text is has a match somewhere in the value
abbrev pub finds : filters.Finds
finds text value = is_found (read_text text) value

-- the tags pass each filter
abbrev pub passes : List Filter → List Pair → Bool
passes = filters.passes finds

-- the regular expression is that of the text
pub record IsRegexOf (text : List ℕ) (regex : Regex) : Type 0 where
  pub source : regex_source regex ≡ text
  pub config : regex_config regex ≡ default_config
  pub from : IsReadFromSource regex
  pub is_read : is_read text ≡ true
