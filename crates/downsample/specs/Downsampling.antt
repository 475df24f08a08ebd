-- A series with one value for each bucket.
-- A series is an unordered list of readings, each a time in milliseconds with its value.
use Rattle.std.specs.Prelude.{◌≡◌, ℕ, ℤ, true, All, List, [], ◌∷◌, Option, Some, None, Result, Ok, Err}
use Rattle.std.specs.FinMap.{from_entries, entries}
use Rattle.std.specs.Ordering.{nat_cmp}
use Rattle.tsd_base.specs.declared.kinds.Function.{Function}
use Rattle.tsd_base.specs.declared.kinds.Fill.{Fill}
use Rattle.tsd_base.specs.declared.kinds.Fill.TheVariants.{NoFill, Zero}
use Rattle.tsd_base.specs.declared.kinds.Down.{Down}
use Rattle.lerp_aggregate.specs.Aggregation.{fits}
use Rattle.downsample.specs.Buckets.{bucket_of, keeps_one, buckets_of, all_buckets, values_in, value_of}
use Rattle.downsample.specs.declared.downsampling.DownFault.{DownFault}
use Rattle.downsample.specs.declared.downsampling.DownFault.TheVariants.{Overflow, OutOfMemory}

-- the readings in order of time, one at each: the entries of the finite map of them
abbrev pub in_order : List (ℕ × ℤ) → List (ℕ × ℤ)
in_order readings = entries (from_entries {R = nat_cmp} readings)

-- a point and those behind it, unless it has no value, or one behind it has none: then the first such time
abbrev pub point_before : ℕ → Option ℤ → Result (List (ℕ × ℤ)) ℕ → Result (List (ℕ × ℤ)) ℕ
point_before time None rest = Err time
point_before time (Some value) (Ok points) = Ok ((time, value) ∷ points)
point_before time (Some value) (Err later) = Err later

-- each of these buckets with the value of its points, or the first one whose sum leaves i64
abbrev pub valued : Function → ℕ → List (ℕ × ℤ) → List ℕ → Result (List (ℕ × ℤ)) ℕ
valued function interval points [] = Ok []
valued function interval points (bucket ∷ buckets) = point_before bucket (value_of function (values_in interval points bucket)) (valued function interval points buckets)

-- without a fill the buckets in which there are points, with the fill zero all
abbrev pub buckets_for : Fill → ℕ → ℕ → ℕ → List (ℕ × ℤ) → List ℕ
buckets_for NoFill interval start end points = buckets_of interval points
buckets_for Zero interval start end points = all_buckets interval start end

-- the downsampled series, or the least bucket whose sum leaves i64
abbrev pub downsampled : Down → ℕ → ℕ → List (ℕ × ℤ) → Result (List (ℕ × ℤ)) ℕ
downsampled how start end readings = valued how.function how.interval (in_order readings) (buckets_for how.fill how.interval start end (in_order readings))

-- the answer is what was wanted, or memory ran out
abbrev pub GivesDown : Result (List (ℕ × ℤ)) DownFault → Result (List (ℕ × ℤ)) ℕ → Type 0
GivesDown (Ok dots) wanted = wanted ≡ Ok dots
GivesDown (Err (Overflow time)) wanted = wanted ≡ Err time
GivesDown (Err OutOfMemory) wanted = Unit {0}

-- a bucket begins at the point, whose value is one of an i64
abbrev pub Begins : ℕ → ℕ × ℤ → Type 0
Begins interval point = (bucket_of interval point.0 ≡ point.0) × (fits point.1 ≡ true)

-- without a fill the points are their own downsampled series
abbrev pub AreBuckets : Down → List (ℕ × ℤ) → Type 0
AreBuckets how points = (how.fill ≡ NoFill) × (keeps_one how.function ≡ true) × All (Begins how.interval) points
