-- What an aggregation depends on.
use Rattle.std.specs.Prelude.{◌≡◌, ℕ, ℤ, List}
use Rattle.std.specs.List.{AllZip}
use Rattle.std.specs.List.Sorted.{IsPermutation}
use Rattle.tsd_base.specs.declared.kinds.Aggregator.{Aggregator}
use Rattle.lerp_aggregate.specs.Aggregation.{value_at, aggregated}

-- two series have the same value at every time
abbrev pub AreAlike : List (ℕ × ℤ) → List (ℕ × ℤ) → Type 0
AreAlike xs ys = (t : ℕ) → value_at xs t ≡ value_at ys t

-- groups of series that are alike, place by place, make the same points
abbrev pub DependsOnValuesAlone : Type 0
DependsOnValuesAlone = (how : Aggregator) (xs ys : List (List (ℕ × ℤ))) → AllZip AreAlike xs ys → aggregated how xs ≡ aggregated how ys

-- a group makes the same points in any order of its series
abbrev pub IsUnordered : Type 0
IsUnordered = (how : Aggregator) (xs ys : List (List (ℕ × ℤ))) → IsPermutation xs ys → aggregated how xs ≡ aggregated how ys
