-- The series that texts ask for, as functions of these texts.
use Rattle.std.specs.Prelude.{ℕ, Bool, true, false, ◌==◌, List, [], ◌∷◌, ◌++◌, codes, length, Option, None, Some, option_map, Result, Ok, Err, if◌then◌else◌}
use Rattle.tsd_base.specs.Tags.{Pair, tags_of}
use Rattle.tsd_base.specs.declared.tags.TagsFault.{TagsFault}
use Rattle.tsd_base.specs.declared.kinds.Down.{Down}
use Rattle.query_text.specs.Subs.{sub_of}
use Rattle.query_text.specs.declared.queries.Filter.{Filter}
use Rattle.query_text.specs.declared.queries.Sub.{Sub}
use Rattle.query_text.specs.declared.queries.Test.{Test}
use Rattle.query_text.specs.declared.queries.Test.TheVariants.{OneOf}
use Rattle.query_text.specs.declared.queries.QueryFault.{QueryFault}
use Rattle.series_meta.specs.LookupTexts.{has_text_test, has_two_parts}
use Rattle.http_series.specs.declared.argument_fault.ArgumentFault.{ArgumentFault}
use Rattle.http_series.specs.declared.argument_fault.ArgumentFault.TheVariants.{BadTimeseries}
use Rattle.http_series.specs.declared.last_request.SeriesName.{SeriesName}
use Rattle.http_series.specs.ArgumentReading.{◌>>=◌, or_fault}

-- a sub query whose filters test names alone
abbrev pub by_names : Sub → Bool → Option Sub
by_names sub false = Some sub
by_names sub true = None

-- the same without a downsample
abbrev pub plain : Sub → Option Down → Option Sub
plain sub None = by_names sub (has_text_test sub.filters)
plain sub (Some down) = None

abbrev pub plain_of : Bool → Result Sub QueryFault → Option Sub
plain_of false (Ok sub) = plain sub sub.down
plain_of false (Err fault) = None
plain_of true read = None

-- what the text asks with the aggregator `none`, where it has no downsample, at most one part in braces, and filters by names alone
unfoldable pub series_of : List ℕ → Option Sub
series_of text = plain_of (has_two_parts text) (sub_of true (codes "none:" ++ text))

-- ---- one series

-- the one name that a test asks for
abbrev pub one_of : List (List ℕ) → Option (List ℕ)
one_of (name ∷ []) = Some name
one_of _ = None

abbrev pub one_name : Test → Option (List ℕ)
one_name (OneOf names) = one_of names
one_name _ = None

-- a filter's key, with the one value that it asks for
abbrev pub pair_of : Filter → Option Pair
pair_of filter = option_map (λ name. (filter.key, name)) (one_name filter.test)

abbrev pub pairs_of : List Filter → Result (List Pair) ArgumentFault
pairs_of [] = Ok []
pairs_of (filter ∷ filters) = do
  pair ← or_fault BadTimeseries (pair_of filter)
  pairs ← pairs_of filters
  Ok (pair ∷ pairs)

-- the tags that pairs make, where each pair has a key of its own
abbrev pub whole : List Pair → Result (List Pair) TagsFault → Option (List Pair)
whole pairs (Ok tags) = if length tags == length pairs then Some tags else None
whole pairs (Err fault) = None

abbrev pub tags_by : List Pair → Option (List Pair)
tags_by pairs = whole pairs (tags_of pairs)

abbrev pub named_by : Sub → Result SeriesName ArgumentFault
named_by sub = do
  pairs ← pairs_of sub.filters
  tags ← or_fault BadTimeseries (tags_by pairs)
  Ok (record { metric = sub.metric; tags = tags })

-- the series that a text names: its filters have 1 to 8 different keys, each with one value
unfoldable pub series_named : List ℕ → Result SeriesName ArgumentFault
series_named text = or_fault BadTimeseries (series_of text) >>= named_by
