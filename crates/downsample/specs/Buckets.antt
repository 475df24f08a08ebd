-- Buckets of times, and what the values of one make.
use Rattle.std.specs.Prelude.{ℕ, Bool, true, false, ◌+◌, ◌-◌, ◌/◌, ◌%◌, ℤ, pos, not, nat_eq, List, [], ◌∷◌, Option, Some, map, filter, fold}
use Rattle.tsd_base.specs.declared.kinds.Function.{Function}
use Rattle.tsd_base.specs.declared.kinds.Function.TheVariants as function
use Rattle.tsd_base.specs.declared.kinds.Aggregator.TheVariants as aggregator
use Rattle.lerp_aggregate.specs.FilledGroups.{times_from}
use Rattle.lerp_aggregate.specs.Tally.{made_of}

-- where the bucket of a time begins
abbrev pub bucket_of : ℕ → ℕ → ℕ
bucket_of interval time = time - time % interval

-- the buckets in which there are points, in the order of these, each once
abbrev pub buckets_of : ℕ → List (ℕ × ℤ) → List ℕ
buckets_of interval [] = []
buckets_of interval (p ∷ points) = bucket_of interval p.0 ∷ filter (λ bucket. not (nat_eq bucket (bucket_of interval p.0))) (buckets_of interval points)

-- all buckets from the one of start to that of end
abbrev pub all_buckets : ℕ → ℕ → ℕ → List ℕ
all_buckets interval start end = times_from interval (bucket_of interval start) (end / interval - start / interval + 1)

-- the values of the points in a bucket
abbrev pub values_in : ℕ → List (ℕ × ℤ) → ℕ → List ℤ
values_in interval points bucket = map (λ p. p.1) (filter (λ p. nat_eq (bucket_of interval p.0) bucket) points)

-- what the function makes of a value and those behind it; nothing where it is a sum that no i64 has
abbrev pub value_of_some : Function → ℤ → List ℤ → Option ℤ
value_of_some function.Sum value values = made_of aggregator.Sum (value ∷ values)
value_of_some function.Min value values = made_of aggregator.Min (value ∷ values)
value_of_some function.Max value values = made_of aggregator.Max (value ∷ values)
value_of_some function.Avg value values = made_of aggregator.Avg (value ∷ values)
value_of_some function.Count value values = made_of aggregator.Count (value ∷ values)
value_of_some function.First value values = Some value
value_of_some function.Last value values = Some (fold (λ earlier later. later) value values)
value_of_some function.Zimsum value values = made_of aggregator.Zimsum (value ∷ values)
value_of_some function.Mimmin value values = made_of aggregator.Mimmin (value ∷ values)
value_of_some function.Mimmax value values = made_of aggregator.Mimmax (value ∷ values)

-- what the function makes of the values of a bucket, in order of time; of none it is 0
abbrev pub value_of : Function → List ℤ → Option ℤ
value_of how [] = Some (pos 0)
value_of how (value ∷ values) = value_of_some how value values

-- whether the function makes a value of itself alone
abbrev pub keeps_one : Function → Bool
keeps_one function.Sum = true
keeps_one function.Min = true
keeps_one function.Max = true
keeps_one function.Avg = true
keeps_one function.Count = false
keeps_one function.First = true
keeps_one function.Last = true
keeps_one function.Zimsum = true
keeps_one function.Mimmin = true
keeps_one function.Mimmax = true
