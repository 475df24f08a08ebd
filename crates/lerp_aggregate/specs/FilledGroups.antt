-- Groups whose series have a value at each of some times: 0 where a series has none.
use Rattle.std.specs.Prelude.{ℕ, zero, suc, ◌+◌, ℤ, pos, List, [], ◌∷◌, Contains, All, map, unwrap_or}
use Rattle.lerp_aggregate.specs.Aggregation.{value_at}

-- so many times from the first on, an interval apart
abbrev pub times_from : ℕ → ℕ → ℕ → List ℕ
times_from interval first zero = []
times_from interval first (suc n) = first ∷ times_from interval (first + interval) n

-- the value at a time, or 0 where there is none
abbrev pub value_or_zero : List (ℕ × ℤ) → ℕ → ℤ
value_or_zero series time = unwrap_or (value_at series time) (pos 0)

-- a series with a value at each of these times
abbrev pub filled : List ℕ → List (ℕ × ℤ) → List (ℕ × ℤ)
filled times series = map (λ time. (time, value_or_zero series time)) times

-- each point of the series is at one of these times
abbrev pub IsOn : List ℕ → List (ℕ × ℤ) → Type 0
IsOn times series = All (λ p. Contains times p.0) series
