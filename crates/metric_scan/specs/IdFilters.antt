-- Filters by the ids of their names.
use Rattle.std.specs.Prelude.{ℕ, Bool, true, not, ◌&&◌, nat_eq, List}
use Rattle.std.specs.List.{AllZip, list_any, list_all}
use Rattle.std.specs.List.Sorted.{IsPermutation}
use Rattle.tsd_base.specs.declared.kinds.Kind.TheVariants.{TagKey, TagValue}
use Rattle.query_text.specs.declared.queries.Test.{Test}
use Rattle.query_text.specs.declared.queries.Test.TheVariants as text
use Rattle.query_text.specs.declared.queries.Filter.{Filter}
use Rattle.cell_model.specs.Seen.{Seen}
use Rattle.uid_table.specs.Shown.{HasShown}
use Rattle.metric_scan.specs.declared.id_filter.IdTest.{IdTest}
use Rattle.metric_scan.specs.declared.id_filter.IdTest.TheVariants.{Any, OneOf, NotOneOf}
use Rattle.metric_scan.specs.declared.id_filter.IdFilter.{IdFilter}

-- the id of a value passes the test
abbrev pub passes_test : IdTest → ℕ → Bool
passes_test Any id = true
passes_test (OneOf ids) id = list_any (nat_eq id) ids
passes_test (NotOneOf ids) id = not (list_any (nat_eq id) ids)

-- a pair has the id of the filter's key, and the id of its value passes the test
abbrev pub passes_filter : IdFilter → List (ℕ × ℕ) → Bool
passes_filter f pairs = list_any (λ pair. nat_eq f.key pair.0 && passes_test f.test pair.1) pairs

-- the pairs pass each filter
abbrev pub passes : List IdFilter → List (ℕ × ℕ) → Bool
passes filters pairs = list_all (λ f. passes_filter f pairs) filters

-- the caller has seen that these are the ids of the names, in their order
abbrev pub AreIds : Seen → List (List ℕ) → List ℕ → Type 0
AreIds s names ids = AllZip (λ name id. HasShown s TagValue name id) names ids

-- the same, whatever their order
abbrev pub AreIdsOf : Seen → List (List ℕ) → List ℕ → Type 0
AreIdsOf s names ids = (listed : List ℕ) × AreIds s names listed × IsPermutation listed ids

-- the test by ids is the one of the names; by ids any value passes a test of text
abbrev pub IsIdTest : Seen → Test → IdTest → Type 0
IsIdTest s text.Any Any = Unit {0}
IsIdTest s (text.OneOf names) (OneOf ids) = AreIdsOf s names ids
IsIdTest s (text.NotOneOf names) (NotOneOf ids) = AreIdsOf s names ids
IsIdTest s (text.Wild part) Any = Unit {0}
IsIdTest s (text.Pattern part) Any = Unit {0}
IsIdTest s test other = ⊥

-- the filter by ids is the one of the names
pub record IsIdFilter (s : Seen) (f : Filter) (by : IdFilter) : Type 0 where
  pub key : HasShown s TagKey f.key by.key
  pub test : IsIdTest s f.test by.test

abbrev pub AreIdFilters : Seen → List Filter → List IdFilter → Type 0
AreIdFilters s filters list = AllZip (IsIdFilter s) filters list
