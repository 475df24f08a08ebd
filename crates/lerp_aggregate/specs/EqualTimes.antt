-- Series that have the same times.
use Rattle.std.specs.Prelude.{◌≡◌, ℕ, ◌<◌, ℤ, Bool, List, length, slice_index_or}
use Rattle.std.specs.List.{filter_map}
use Rattle.lerp_aggregate.specs.declared.tally.Tally.{Tally}
use Rattle.lerp_aggregate.specs.Aggregation.{given_at}
use Rattle.lerp_aggregate.specs.Tally.{Adds}

-- the series has a point at a place, and it is at this time
abbrev pub HaveAt : ℕ → ℕ → List (ℕ × ℤ) → Type 0
HaveAt place time series = (place < length series) × ((d : ℕ × ℤ) → (slice_index_or series place d).0 ≡ time)

-- the values that the series give at a time are counted, taken between points or not
abbrev pub AddsAt : List (List (ℕ × ℤ)) → ℕ → Tally → Tally → Type 0
AddsAt group time old new = (between : Bool) → Adds old new (filter_map (λ series. given_at between series time) group)
