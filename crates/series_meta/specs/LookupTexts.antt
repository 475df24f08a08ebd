-- Texts that ask for series.
use Rattle.std.specs.Prelude.{◌≡◌, ℕ, Bool, true, false, List, ◌++◌, codes, None, is_some, option_and_then, Result, Ok, Err}
use Rattle.std.specs.List.{list_any}
use Rattle.query_text.specs.Cuts.{place_of, behind}
use Rattle.query_text.specs.FilterTexts.{is_of_text}
use Rattle.query_text.specs.Subs.{sub_of}
use Rattle.query_text.specs.declared.queries.Filter.{Filter}
use Rattle.query_text.specs.declared.queries.Sub.{Sub}
use Rattle.series_meta.specs.declared.meta_faults.SeriesFault.{SeriesFault}
use Rattle.series_meta.specs.declared.meta_faults.SeriesFault.TheVariants.{BadSeries, OutOfMemory}

-- the text has more than one part in braces: a second `{`
abbrev pub has_two_parts : List ℕ → Bool
has_two_parts text = is_some (option_and_then (place_of 123) (behind 123 text))

-- a filter tests the text of a value, and not names alone
abbrev pub has_text_test : List Filter → Bool
has_text_test filters = list_any (λ f. is_of_text f.test) filters

-- With the aggregator `none` before it the text is that of this sub query. It has no downsample, at most one part in braces, and filters by names alone.
pub record IsSeriesText (text : List ℕ) (sub : Sub) : Type 0 where
  pub reads : sub_of true (codes "none:" ++ text) ≡ Ok sub
  pub plain : sub.down ≡ None
  pub one_part : has_two_parts text ≡ false
  pub by_names : has_text_test sub.filters ≡ false

-- the series that the text asks for, or that it is no such text; want of memory may always be told
abbrev pub GivesSeries : Result Sub SeriesFault → List ℕ → Type 0
GivesSeries (Ok sub) text = IsSeriesText text sub
GivesSeries (Err BadSeries) text = (sub : Sub) → IsSeriesText text sub → ⊥
GivesSeries (Err OutOfMemory) text = Unit {0}
