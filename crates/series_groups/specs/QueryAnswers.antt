-- The answer of a sub query over readings.
use Rattle.std.specs.Prelude.{ℕ, ℤ, Bool, true, false, List, [], ◌∷◌, length, map, filter, Option, None, Some, Result, Ok, Err, min, nat_lt, if◌then◌else◌}
use Rattle.std.specs.FinMap.{from_entries, keys}
use Rattle.tsd_base.specs.declared.kinds.Aggregator.{Aggregator}
use Rattle.tsd_base.specs.declared.kinds.Aggregator.TheVariants as aggregator
use Rattle.tsd_base.specs.declared.kinds.Function.{Function}
use Rattle.tsd_base.specs.declared.kinds.Function.TheVariants as function
use Rattle.tsd_base.specs.declared.kinds.Fill.{Fill}
use Rattle.tsd_base.specs.declared.kinds.Fill.TheVariants.{NoFill, Zero}
use Rattle.tsd_base.specs.declared.kinds.Down.{Down}
use Rattle.tsd_base.specs.TagList.{Pair, tags_cmp, is_same_tags}
use Rattle.tsd_base.specs.Points.{DataPoint}
use Rattle.tsd_base.specs.LastPoints.{series_of, dots_of}
use Rattle.query_text.specs.declared.queries.Query.{Query}
use Rattle.query_text.specs.declared.queries.Sub.{Sub}
use Rattle.downsample.specs.Buckets.{all_buckets}
use Rattle.downsample.specs.Downsampling.{downsampled}
use Rattle.lerp_aggregate.specs.Aggregation.{aggregated}
use Rattle.group_by.specs.TagFilters.{group_key}
use Rattle.group_by.specs.Shared.{shared_pairs, aggregate_keys}
use Rattle.json_reply.specs.Replies.{Group}

-- ---- the points of a series

-- the function of the same name, and the last value under none
abbrev pub function_of : Aggregator → Function
function_of aggregator.Sum = function.Sum
function_of aggregator.Min = function.Min
function_of aggregator.Max = function.Max
function_of aggregator.Avg = function.Avg
function_of aggregator.Count = function.Count
function_of aggregator.Zimsum = function.Zimsum
function_of aggregator.Mimmin = function.Mimmin
function_of aggregator.Mimmax = function.Mimmax
function_of aggregator.NoneOf = function.Last

-- how each series is downsampled: as is asked; else, where times are told in seconds, by 1 s with the aggregator's function
abbrev pub down_by : Bool → Aggregator → Option Down → Option Down
down_by ms how (Some down) = Some down
down_by true how None = None
down_by false how None = Some (record { interval = 1000; function = function_of how; fill = NoFill })

-- the points of a series from one time to another, or the least bucket whose sum leaves i64
abbrev pub down_to : Option Down → ℕ → ℕ → List (ℕ × ℤ) → Result (List (ℕ × ℤ)) ℕ
down_to None start end dots = Ok dots
down_to (Some how) start end dots = downsampled how start end dots

-- the points of one series and of others, or the least time that stands in place of some
abbrev pub first_and : Result (List (ℕ × ℤ)) ℕ → Result (List (List (ℕ × ℤ))) ℕ → Result (List (List (ℕ × ℤ))) ℕ
first_and (Ok dots) (Ok lists) = Ok (dots ∷ lists)
first_and (Ok dots) (Err time) = Err time
first_and (Err time) (Ok lists) = Err time
first_and (Err time) (Err other) = Err (min time other)

-- the points of each series, or the least time that stands in place of some
abbrev pub all_or_least : List (Result (List (ℕ × ℤ)) ℕ) → Result (List (List (ℕ × ℤ))) ℕ
all_or_least [] = Ok []
all_or_least (one ∷ rest) = first_and one (all_or_least rest)

-- ---- groups

-- the values of the grouped keys that series have, each once and in order
abbrev pub group_keys : Sub → List (List Pair) → List (List Pair)
group_keys s series = keys (from_entries {R = tags_cmp} (map (λ tags. (group_key s tags, tags)) series))

-- the series that have the same values of the grouped keys are one group
abbrev pub groups_in : Sub → List (List Pair) → List (List (List Pair))
groups_in s series = map (λ key. filter (λ tags. is_same_tags (group_key s tags) key) series) (group_keys s series)

-- a group of these series of a metric; ms: whether its times are told in milliseconds
abbrev pub group_of : Bool → List ℕ → List (List Pair) → List (ℕ × ℤ) → Group
group_of ms metric series dots = record { metric = metric; tags = shared_pairs series; aggregate_tags = aggregate_keys series; dots = dots; ms = ms }

abbrev pub grouped : Bool → List ℕ → List (List Pair) → Result (List (ℕ × ℤ)) ℕ → Result Group ℕ
grouped ms metric series (Ok dots) = Ok (group_of ms metric series dots)
grouped ms metric series (Err time) = Err time

abbrev pub aggregated_all : Aggregator → Result (List (List (ℕ × ℤ))) ℕ → Result (List (ℕ × ℤ)) ℕ
aggregated_all how (Ok lists) = aggregated how lists
aggregated_all how (Err time) = Err time

-- The group of series with these tags and points. Where it overflows, its time is the least bucket in which the sum of one of the series
-- leaves i64, and where there is none the least time at which the group's sum does.
abbrev pub group_from : Query → Sub → List (List Pair) → List (List (ℕ × ℤ)) → Result Group ℕ
group_from q s series lists = grouped q.ms s.metric series (aggregated_all s.how (all_or_least (map (down_to (down_by q.ms s.how s.down) q.start q.end) lists)))

-- the group of these series of the points
abbrev pub group_answer : Query → Sub → List DataPoint → List (List Pair) → Result Group ℕ
group_answer q s points series = group_from q s series (map (dots_of points) series)

-- all groups, or the first time that stands in place of one
abbrev pub all_groups : List (Result Group ℕ) → Result (List Group) ℕ
all_groups [] = Ok []
all_groups (Err time ∷ rest) = Err time
all_groups (Ok group ∷ rest) = before group (all_groups rest)
  where
    before : Group → Result (List Group) ℕ → Result (List Group) ℕ
    before group (Ok groups) = Ok (group ∷ groups)
    before group (Err time) = Err time

-- the groups over points of the sub query's metric, or the time at which the first group that overflows does
abbrev pub answer : Query → Sub → List DataPoint → Result (List Group) ℕ
answer q s points = all_groups (map (group_answer q s points) (groups_in s (series_of points)))

-- ---- which downsamples are too fine

-- a fill of zeros makes at most 1,000,000 buckets
abbrev pub too_many : ℕ → Option ℕ
too_many count = if nat_lt 1000000 count then Some count else None

abbrev pub too_many_by : ℕ → ℕ → ℕ → Fill → Option ℕ
too_many_by start end interval NoFill = None
too_many_by start end interval Zero = too_many (length (all_buckets interval start end))

abbrev pub too_many_down : ℕ → ℕ → Option Down → Option ℕ
too_many_down start end None = None
too_many_down start end (Some down) = too_many_by start end down.interval down.fill
