-- Filters without a pattern pass the same tags, whatever patterns find.
use Rattle.std.proofs.Common.{◌≡◌, ℕ, Bool, true, false, List, [], ◌∷◌, refl, sym, ap, ◌∙◌}
use Rattle.std.specs.Prelude.{◌&&◌, ◌||◌, All}
use Rattle.std.specs.List.{list_any, list_all}
use Rattle.std.proofs.lemmas.List.Elements.{All-head, All-tail}
use Rattle.tsd_base.specs.TagList.{Pair, is_same}
use Rattle.query_text.specs.declared.queries.Test.{Test}
use Rattle.query_text.specs.declared.queries.Test.TheVariants.{Any, OneOf, NotOneOf, Wild, Pattern}
use Rattle.query_text.specs.declared.queries.Filter.{Filter}
use Rattle.group_by.specs.TagFilters.{Finds, passes_test, passes_filter, passes, nowhere, is_pattern}

pub test_alike : (finds : Finds) (test : Test) (value : List ℕ) → is_pattern test ≡ false → passes_test nowhere test value ≡ passes_test finds test value
test_alike finds Any value plain = refl
test_alike finds (OneOf names) value plain = refl
test_alike finds (NotOneOf names) value plain = refl
test_alike finds (Wild text) value plain = refl
test_alike finds (Pattern text) value plain = absurd cc

filter_alike : (finds : Finds) (f : Filter) (tags : List Pair) → is_pattern f.test ≡ false → passes_filter nowhere f tags ≡ passes_filter finds f tags
filter_alike finds f [] plain = refl
filter_alike finds f (pair ∷ tags) plain = λ i. (is_same f.key pair.0 && test_alike finds f.test pair.1 plain i) || filter_alike finds f tags plain i

pub alike : (finds : Finds) (filters : List Filter) (tags : List Pair) → All (λ f. is_pattern f.test ≡ false) filters → passes nowhere filters tags ≡ passes finds filters tags
alike finds [] tags plain = refl
alike finds (f ∷ filters) tags plain = λ i. filter_alike finds f tags (All-head (λ (g : Filter). is_pattern g.test ≡ false) f filters plain) i && alike finds filters tags (All-tail (λ (g : Filter). is_pattern g.test ≡ false) f filters plain) i
