-- What is pending of series.
use Rattle.std.specs.Prelude.{◌≡◌, ℕ, ℤ, Bool, true, false, List, [], ◌∷◌, ◌++◌, Some, IsSomeAnd, map, slice_get, if◌then◌else◌}
use Rattle.std.specs.List.{AllByRecursion}
use Rattle.batch_job.specs.SeriesValues.{Series, SeriesEntry}
use Rattle.batch_job.specs.SeriesTexts.{IsKnownBy, IsTextOf}
use Rattle.batch_job.specs.declared.pending_series.PendingSeries.{PendingSeries}
use Rattle.tsd_base.specs.declared.text_parts.TextParts.{TextParts}

-- a series with its values
abbrev pub with_values : Series × PendingSeries → SeriesEntry
with_values e = (e.0, e.1.values)

abbrev pub all_values : List (Series × PendingSeries) → List SeriesEntry
all_values entries = map with_values entries

-- each text that is kept reads as its series
abbrev pub KeepTexts : List (Series × PendingSeries) → Type 0
KeepTexts entries = AllByRecursion (λ e. IsKnownBy e.0 e.1.text) entries

-- the series stands at this place
abbrev pub StandsAt : List (Series × PendingSeries) → Series → ℕ → Type 0
StandsAt entries series at = (pending : PendingSeries) × (slice_get entries at ≡ Some (series, pending))

-- the test is true only where the parts have the text of the series
abbrev pub IsOneOf : PendingSeries → TextParts → Bool → Type 0
IsOneOf pending parts true = IsSomeAnd pending.text (IsTextOf parts)
IsOneOf pending parts false = Unit {0}

-- the values, and where it is known that of the parts behind them
abbrev pub pushed_if : Bool → List (ℕ × ℤ) → TextParts → List (ℕ × ℤ)
pushed_if known values parts = if known then values ++ (parts.time, parts.value) ∷ [] else values
