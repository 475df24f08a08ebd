-- Judging the values of rows' tags by their names.
use Rattle.std.specs.Prelude.{◌≡◌, ℕ, Bool, true, false, ◌&&◌, ◌||◌, not, nat_eq, List, [], ◌∷◌, All, Contains, Option, None, Some, map}
use Rattle.std.specs.List.{list_any}
use Rattle.std.specs.Map.{lookup}
use Rattle.std.specs.BTreeMap.{is_at}
use Rattle.std.specs.Ordering.{nat_cmp}
use Rattle.tsd_base.specs.declared.kinds.Kind.{Kind}
use Rattle.tsd_base.specs.declared.kinds.Kind.TheVariants.{TagValue}
use Rattle.query_text.specs.declared.queries.Test.{Test}
use Rattle.query_text.specs.declared.queries.Filter.{Filter}
use Rattle.query_text.specs.FilterTexts.{is_of_text}
use Rattle.group_by.specs.TagFilters.{passes_test}
use Rattle.tag_match.specs.Patterns.{finds}
use Rattle.metric_scan.specs.declared.id_filter.IdFilter.{IdFilter}
use Rattle.query_run.specs.declared.value_judges.ValueJudge.{ValueJudge}
use Rattle.metric_scan.specs.RowNames.{Names, HasName}

-- a value passes by its name, where it has one
abbrev pub passes_named : Test → Option (List ℕ) → Bool
passes_named test None = false
passes_named test (Some name) = passes_test finds test name

-- the pair has the key's id, and its value passes by its name
abbrev pub pair_passes : Names → ℕ → Test → ℕ × ℕ → Bool
pair_passes names key test pair = nat_eq key pair.0 && passes_named test (names TagValue pair.1)

-- where the test is of text, one of the pairs has the key with a value that passes by its name
abbrev pub suits_one : Names → ℕ → Test → List (ℕ × ℕ) → Bool
suits_one names key test pairs = not (is_of_text test) || list_any (pair_passes names key test) pairs

-- so it is for each of the filters, with the ids of their keys
abbrev pub suits : Names → List Filter → List IdFilter → List (ℕ × ℕ) → Bool
suits names [] list pairs = true
suits names (f ∷ filters) [] pairs = true
suits names (f ∷ filters) (by ∷ list) pairs = suits_one names by.key f.test pairs && suits names filters list pairs

-- the names are among these
abbrev pub AreAmong : Names → Names → Type 0
AreAmong names all = (kind : Kind) (id : ℕ) (name : List ℕ) → names kind id ≡ Some name → all kind id ≡ Some name

-- what was found of values is so by their names
abbrev pub IsJudgedBy : Names → ValueJudge → Type 0
IsJudgedBy all j = (id : ℕ) (passes : Bool) → lookup (is_at (nat_cmp id)) j.judged.entries ≡ Some passes → passes ≡ passes_named j.judge.test (all TagValue id)

-- a filter judged as is wanted, by whatever names the known ones are among
pub record HasJudged (names : Names) (old new : ValueJudge) (answer : Bool) (wanted : Names → Bool) : Type 0 where
  pub same : new.judge ≡ old.judge
  pub by : (all : Names) → AreAmong names all → IsJudgedBy all old → IsJudgedBy all new × (answer ≡ wanted all)

abbrev pub filters_of : List ValueJudge → List Filter
filters_of judges = map (λ j. j.judge) judges

-- so did several
pub record HaveJudged (names : Names) (old new : List ValueJudge) (answer : Bool) (wanted : Names → Bool) : Type 0 where
  pub same : filters_of new ≡ filters_of old
  pub by : (all : Names) → AreAmong names all → All (IsJudgedBy all) old → All (IsJudgedBy all) new × (answer ≡ wanted all)

-- those of these filters, which found nothing yet
pub record AreFresh (filters : List Filter) (judges : List ValueJudge) : Type 0 where
  pub filters_are : filters_of judges ≡ filters
  pub judged : (all : Names) → All (IsJudgedBy all) judges

-- the values of the pairs have names
abbrev pub HaveValues : Names → List (ℕ × ℕ) → Type 0
HaveValues names pairs = (p : ℕ × ℕ) → Contains pairs p → HasName names (TagValue, p.1)
