-- What the arguments of requests on series ask.
use Rattle.std.specs.Prelude.{ℕ, ◌&&◌, nat_le, List, [], ◌∷◌, codes, length, map, option_and_then, Result, Ok, Err, if◌then◌else◌}
use Rattle.http_requests.specs.Forms.{Parameter, all_values, first_value, form_pairs}
use Rattle.series_meta.specs.LatestPoints.{Asking}
use Rattle.series_meta.specs.Lookups.{SeriesAsked}
use Rattle.http_series.specs.declared.argument_fault.ArgumentFault.{ArgumentFault}
use Rattle.http_series.specs.declared.argument_fault.ArgumentFault.TheVariants.{BadLookup, BadLimit, BadTimeseries, BadBackScan}
use Rattle.http_series.specs.declared.last_request.LastRequest.{LastRequest}
use Rattle.http_series.specs.declared.last_request.SeriesName.{SeriesName}
use Rattle.http_series.specs.declared.lookup_request.LookupRequest.{LookupRequest}
use Rattle.http_series.specs.ArgumentReading.{◌>>=◌, or_fault, number_or}
use Rattle.http_series.specs.SeriesTexts.{series_of, series_named}

-- ---- a lookup

abbrev pub lookup_asked : LookupRequest → SeriesAsked
lookup_asked request = record { sub = request.sub; limit = request.limit }

-- the series of the first `m`, and then at most how many of them, 25 where nothing is said
unfoldable pub lookup_of_form : List Parameter → Result SeriesAsked ArgumentFault
lookup_of_form form = do
  sub ← or_fault BadLookup (option_and_then series_of (first_value (codes "m") form))
  limit ← or_fault BadLimit (number_or 25 1 10000 (first_value (codes "limit") form))
  Ok (record { sub = sub; limit = limit })

-- what a form asks to look up
unfoldable pub lookup_by_form : List ℕ → Result SeriesAsked ArgumentFault
lookup_by_form form = lookup_of_form (form_pairs form)

-- ---- the last points of series

-- series, and how many hours before that of the moment are in reach
pub record LastsAsked : Type 0 where
  pub series : List SeriesName
  pub back : ℕ

abbrev pub lasts_asked : LastRequest → LastsAsked
lasts_asked request = record { series = request.series.items; back = request.back }

abbrev pub asking : ℕ → ℕ → SeriesName → Asking
asking now back series = record { metric = series.metric; tags = series.tags; now = now; back = back }

-- the same at a moment, series by series
abbrev pub askings : ℕ → LastsAsked → List Asking
askings now asked = map (asking now asked.back) asked.series

abbrev pub all_named : List (List ℕ) → Result (List SeriesName) ArgumentFault
all_named [] = Ok []
all_named (text ∷ texts) = do
  one ← series_named text
  more ← all_named texts
  Ok (one ∷ more)

-- 1 to 16 texts, of which each names a series
abbrev pub series_in : List (List ℕ) → Result (List SeriesName) ArgumentFault
series_in texts = if nat_le 1 (length texts) && nat_le (length texts) 16 then all_named texts else Err BadTimeseries

-- each `timeseries`, and then the hours to look back, none where nothing is said
unfoldable pub lasts_of_form : List Parameter → Result LastsAsked ArgumentFault
lasts_of_form form = do
  series ← series_in (all_values (codes "timeseries") form)
  back ← or_fault BadBackScan (number_or 0 0 8784 (first_value (codes "back_scan") form))
  Ok (record { series = series; back = back })

-- the last points that a form asks for
unfoldable pub lasts_by_form : List ℕ → Result LastsAsked ArgumentFault
lasts_by_form form = lasts_of_form (form_pairs form)
