-- The aggregators by their names.
use Rattle.std.specs.Prelude.{ℕ, List, codes, Option, None, Some, if◌then◌else◌}
use Rattle.tsd_base.specs.Tags.{is_same}
use Rattle.tsd_base.specs.declared.kinds.Aggregator.{Aggregator}
use Rattle.tsd_base.specs.declared.kinds.Aggregator.TheVariants.{Sum, Min, Max, Avg, Count, Zimsum, Mimmin, Mimmax, NoneOf}

-- the aggregator with this name, if there is one
abbrev pub aggregator_named : List ℕ → Option Aggregator
aggregator_named name =
    if is_same name (codes "sum") then Some Sum
    else if is_same name (codes "min") then Some Min
    else if is_same name (codes "max") then Some Max
    else if is_same name (codes "avg") then Some Avg
    else if is_same name (codes "count") then Some Count
    else if is_same name (codes "zimsum") then Some Zimsum
    else if is_same name (codes "mimmin") then Some Mimmin
    else if is_same name (codes "mimmax") then Some Mimmax
    else if is_same name (codes "none") then Some NoneOf
    else None
