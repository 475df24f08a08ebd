-- What is counted of the values at one time.
use Rattle.std.specs.Prelude.{◌≡◌, ℕ, ◌+◌, ◌-◌, ◌^◌, ◌<◌, ℤ, pos, negsuc, fold, List, ◌++◌, length, true, All, Option, Some, None, if◌then◌else◌}
use Rattle.std.specs.Int.{int_min, int_max}
use Rattle.tsd_base.specs.declared.kinds.Aggregator.{Aggregator}
use Rattle.lerp_aggregate.specs.declared.tally.Tally.{Tally}
use Rattle.lerp_aggregate.specs.Aggregation.{fits, total, combined, overflows}

-- it counts these values, each one of an i64
pub record Counts (tally : Tally) (values : List ℤ) : Type 0 where
  pub fit : All (λ value. fits value ≡ true) values
  pub count : tally.count ≡ length values
  pub sum : tally.sum ≡ total values
  pub least : tally.least ≡ fold int_min (pos (2 ^ 63 - 1)) values
  pub greatest : tally.greatest ≡ fold int_max (negsuc (2 ^ 63 - 1)) values

-- it counts so few values that there is room for n more
pub record HasRoom (tally : Tally) (n : ℕ) : Type 0 where
  pub values : List ℤ
  pub counts : Counts tally values
  pub few : length values + n < 2 ^ 63

-- it counts these values more
pub record Adds (old new : Tally) (more : List ℤ) : Type 0 where
  pub adds : (values : List ℤ) → Counts old values → Counts new (values ++ more)

-- what the aggregator makes of the values, unless it is a sum that no i64 has
abbrev pub made_of : Aggregator → List ℤ → Option ℤ
made_of how values = if overflows how (combined how values) then None else Some (combined how values)
