-- Series by their names, in one form of times, and their values.
use Rattle.std.specs.Prelude.{ℕ, ℤ, Bool, ◌&&◌, List, Option}
use Rattle.std.specs.Bool.{beq}
use Rattle.std.specs.Map.{lookup}
use Rattle.tsd_base.specs.Points.{DataPoint}
use Rattle.tsd_base.specs.TagList.{Pair, is_same, is_same_tags}

-- a metric with its tags, and whether times are in milliseconds
abbrev pub Series : Type 0
Series = (List ℕ × List Pair) × Bool

-- a series with its values
abbrev pub SeriesEntry : Type 0
SeriesEntry = Series × List (ℕ × ℤ)

abbrev pub is_same_series : Series → Series → Bool
is_same_series a b = (is_same a.0.0 b.0.0 && is_same_tags a.0.1 b.0.1) && beq a.1 b.1

abbrev pub series_of_point : DataPoint → Series
series_of_point p = ((p.metric, p.tags), p.fine)

-- the values that a series has among these
abbrev pub values_in : List SeriesEntry → Series → Option (List (ℕ × ℤ))
values_in entries s = lookup (is_same_series s) entries
