-- How the series of a group make one value at each time of the union of their times.
-- A series is an unordered list of readings, each a time in milliseconds with its value. A group is a list of series.
use Rattle.std.specs.Prelude.{◌≡◌, ℕ, ◌+ℤ◌, ◌^◌, ◌&&◌, ℤ, pos, negsuc, Bool, true, false, not, List, [], ◌∷◌, Option, Some, None, Result, Ok, Err, fold, length, map, nat_eq, nat_lt, int_div}
use Rattle.std.specs.FinMap.{from_entries, keys}
use Rattle.std.specs.Int.{int_min, int_max}
use Rattle.std.specs.List.{filter_map, find, flat_map}
use Rattle.std.specs.Map.{lookup}
use Rattle.std.specs.Ordering.{nat_cmp}
use Rattle.tsd_base.specs.declared.kinds.Aggregator.{Aggregator}
use Rattle.tsd_base.specs.declared.kinds.Aggregator.TheVariants.{Sum, Min, Max, Avg, Count, Zimsum, Mimmin, Mimmax, NoneOf}
use Rattle.lerp_aggregate.specs.Interpolation.{between, nearest_before, nearest_after}
use Rattle.lerp_aggregate.specs.declared.aggregation.AggFault.{AggFault}
use Rattle.lerp_aggregate.specs.declared.aggregation.AggFault.TheVariants.{Overflow, OutOfMemory}

-- whether a series without a value at a time gives one between its neighbours
abbrev pub interpolates : Aggregator → Bool
interpolates Sum = true
interpolates Min = true
interpolates Max = true
interpolates Avg = true
interpolates Count = false
interpolates Zimsum = false
interpolates Mimmin = false
interpolates Mimmax = false
interpolates NoneOf = false

-- the value that stands at a time: that of the first reading with this time
abbrev pub value_at : List (ℕ × ℤ) → ℕ → Option ℤ
value_at series time = lookup (nat_eq time) series

-- that value, or else the one between the neighbours
abbrev pub value_or_between : Option ℤ → List (ℕ × ℤ) → ℕ → Option ℤ
value_or_between (Some value) series time = Some value
value_or_between None series time = between (nearest_before series time) (nearest_after series time) time

-- what a series gives at a time
abbrev pub given_at : Bool → List (ℕ × ℤ) → ℕ → Option ℤ
given_at true series time = value_or_between (value_at series time) series time
given_at false series time = value_at series time

-- the union of the series' times, each once, rising: the keys of the finite map of all readings
abbrev pub times_of : List (List (ℕ × ℤ)) → List ℕ
times_of group = keys (from_entries {R = nat_cmp} (flat_map (λ series. series) group))

-- the values that the series give at a time, in the order of the series
abbrev pub values_at : Aggregator → List (List (ℕ × ℤ)) → ℕ → List ℤ
values_at how group time = filter_map (λ series. given_at (interpolates how) series time) group

-- the sum, the least and the greatest of these values
abbrev pub total : List ℤ → ℤ
total values = fold ◌+ℤ◌ (pos 0) values

abbrev pub least : List ℤ → ℤ
least [] = pos 0
least (value ∷ values) = fold int_min value values

abbrev pub greatest : List ℤ → ℤ
greatest [] = pos 0
greatest (value ∷ values) = fold int_max value values

-- the aggregator's function of them; under `none` a group is one series, whose only value is the least of one
abbrev pub combined : Aggregator → List ℤ → ℤ
combined Sum values = total values
combined Min values = least values
combined Max values = greatest values
combined Avg values = int_div (total values) (pos (length values))
combined Count values = pos (length values)
combined Zimsum values = total values
combined Mimmin values = least values
combined Mimmax values = greatest values
combined NoneOf values = least values

-- whether an i64 has it: from -2^63 to 2^63 - 1
abbrev pub fits : ℤ → Bool
fits (pos n) = nat_lt n (2 ^ 63)
fits (negsuc n) = nat_lt n (2 ^ 63)

-- whether the aggregator is a sum, the only kind that may leave i64
abbrev pub is_sum : Aggregator → Bool
is_sum Sum = true
is_sum Min = false
is_sum Max = false
is_sum Avg = false
is_sum Count = false
is_sum Zimsum = true
is_sum Mimmin = false
is_sum Mimmax = false
is_sum NoneOf = false

abbrev pub overflows : Aggregator → ℤ → Bool
overflows how value = is_sum how && not (fits value)

-- each time of the union with what the values there make
abbrev pub points_of : Aggregator → List (List (ℕ × ℤ)) → List (ℕ × ℤ)
points_of how group = map (λ time. (time, combined how (values_at how group time))) (times_of group)

-- these points, unless one of them is too large: then its time
abbrev pub points_unless : Option (ℕ × ℤ) → List (ℕ × ℤ) → Result (List (ℕ × ℤ)) ℕ
points_unless None points = Ok points
points_unless (Some too_large) points = Err too_large.0

-- the points of the group; where some sum leaves i64, the least such time
abbrev pub aggregated : Aggregator → List (List (ℕ × ℤ)) → Result (List (ℕ × ℤ)) ℕ
aggregated how group = points_unless (find (λ point. overflows how point.1) (points_of how group)) (points_of how group)

-- the answer is what was wanted, or memory ran out
abbrev pub GivesAggregate : Result (List (ℕ × ℤ)) AggFault → Result (List (ℕ × ℤ)) ℕ → Type 0
GivesAggregate (Ok dots) wanted = wanted ≡ Ok dots
GivesAggregate (Err (Overflow time)) wanted = wanted ≡ Err time
GivesAggregate (Err OutOfMemory) wanted = Unit {0}
