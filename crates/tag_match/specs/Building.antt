-- Building the patterns of filters.
use Rattle.std.specs.Prelude.{◌≡◌, ℕ, List, Option, None, Some, Result, Ok, Err, position, map}
use Rattle.query_text.specs.declared.queries.Filter.{Filter}
use Rattle.tag_match.specs.TestPatterns.{is_bad}
use Rattle.tag_match.specs.declared.built.Built.{Built}
use Rattle.tag_match.specs.declared.built.BuildFault.{BuildFault}
use Rattle.tag_match.specs.declared.built.BuildFault.TheVariants as fault

-- the first such filter
abbrev pub first_bad : List Filter → Option ℕ
first_bad filters = position is_bad filters

-- All patterns were built, or the first that can't be is named; want of memory may always be told.
abbrev pub BuildSays : List Filter → Result Built BuildFault → Type 0
BuildSays filters (Ok built) = (built ≡ filters) × (first_bad filters ≡ None)
BuildSays filters (Err (fault.Pattern index)) = first_bad filters ≡ Some index
BuildSays filters (Err fault.OutOfMemory) = Unit {0}
