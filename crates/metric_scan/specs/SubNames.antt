-- The names of a sub query, in the order of its text.
use Rattle.std.specs.Prelude.{ℕ, List, [], ◌∷◌, map}
use Rattle.std.specs.List.{flat_map}
use Rattle.tsd_base.specs.declared.kinds.Kind.TheVariants.{Metric, TagKey, TagValue}
use Rattle.query_text.specs.declared.queries.Sub.{Sub}
use Rattle.query_text.specs.declared.queries.Filter.{Filter}
use Rattle.query_text.specs.declared.queries.Test.{Test}
use Rattle.query_text.specs.declared.queries.Test.TheVariants.{Any, OneOf, NotOneOf, Wild, Pattern}
use Rattle.metric_scan.specs.Parts.{NameOf}

-- the names of a test, of a filter and of a sub query, each as often as it stands in the text
abbrev pub test_names : Test → List (List ℕ)
test_names Any = []
test_names (OneOf names) = names
test_names (NotOneOf names) = names
test_names (Wild text) = []
test_names (Pattern text) = []

abbrev pub filter_names : Filter → List NameOf
filter_names f = (TagKey, f.key) ∷ map (λ name. (TagValue, name)) (test_names f.test)

abbrev pub names_in : Sub → List NameOf
names_in s = (Metric, s.metric) ∷ flat_map filter_names s.filters
