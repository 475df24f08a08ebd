-- Making groups of series.
use Rattle.std.specs.Prelude.{◌≡◌, ℕ, ℤ, ◌≤◌, ◌%◌, Bool, false, List, [], ◌∷◌, ◌++◌, map, filter, length, min, All, Option, None, Some, option_map, unwrap_or, Vec, Result, Ok, Err, if◌then◌else◌}
use Rattle.std.specs.declared.alloc.Global.{Global}
use Rattle.std.specs.BTreeMap.{BTreeMap, get}
use Rattle.tsd_base.specs.declared.times.TheConstants.{LAST_TIME}
use Rattle.tsd_base.specs.declared.kinds.Fill.TheVariants.{Zero}
use Rattle.tsd_base.specs.declared.kinds.Down.{Down}
use Rattle.tsd_base.specs.TagList.{Pair, tags_cmp, is_same_tags}
use Rattle.query_text.specs.Subs.{CanDown}
use Rattle.query_text.specs.declared.queries.Query.{Query}
use Rattle.query_text.specs.declared.queries.Sub.{Sub}
use Rattle.downsample.specs.Buckets.{all_buckets}
use Rattle.downsample.specs.declared.downsampling.DownFault.{DownFault}
use Rattle.downsample.specs.declared.downsampling.DownFault.TheVariants as down
use Rattle.group_by.specs.TagFilters.{group_key}
use Rattle.lerp_aggregate.specs.declared.aggregation.AggFault.{AggFault}
use Rattle.lerp_aggregate.specs.declared.aggregation.AggFault.TheVariants.{Overflow, OutOfMemory}
use Rattle.json_reply.specs.Replies.{Group, plain}
use Rattle.json_reply.specs.declared.reply.Group as code
use Rattle.series_groups.specs.QueryAnswers.{group_keys, group_from, down_by}
use Rattle.series_groups.specs.QueryAnswers.{too_many_down}
use Rattle.series_groups.specs.KeptSeries.{PointsOf, tags_kept, dots_kept, KeepsEach, AreSeries}
use Rattle.series_groups.specs.declared.named_series.Series.{Series}

-- the sub query can be worked
pub record IsWorkable (q : Query) (s : Sub) : Type 0 where
  pub order : q.start ≤ q.end
  pub most : q.end ≤ LAST_TIME
  pub down : CanDown q.ms s
  pub few : too_many_down q.start q.end s.down ≡ None

-- series can be downsampled so from one time to another
pub record IsDown (start end : ℕ) (down : Down) : Type 0 where
  pub some : 1 ≤ down.interval
  pub few : down.fill ≡ Zero → length (all_buckets down.interval start end) ≤ 1000000

-- the earlier of two times, or the one that there is
abbrev pub earliest : Option ℕ → ℕ → ℕ
earliest None time = time
earliest (Some least) time = min least time

-- those of the series that belong to the group with this key
abbrev pub members : Sub → List Series → List Pair → List Series
members s series key = filter (λ one. is_same_tags (group_key s one.tags) key) series

-- the members of each group, in order of the groups
abbrev pub members_in : Sub → List Series → List (List Series)
members_in s series = map (members s series) (group_keys s (tags_kept series))

-- the group of series with these points
abbrev pub group_with : Query → Sub → PointsOf → List Series → Result Group ℕ
group_with q s of series = group_from q s (tags_kept series) (dots_kept of series)

-- so the points of the sub query's series are kept
abbrev pub KeepsFor : Query → Sub → PointsOf → List Series → Type 0
KeepsFor q s of series = KeepsEach (down_by q.ms s.how s.down) q.start q.end of series

-- these are its series
abbrev pub AreSeriesFor : Query → Sub → PointsOf → List Series → Type 0
AreSeriesFor q s of series = AreSeries (down_by q.ms s.how s.down) q.start q.end of series

-- the members that a map has for a key
abbrev pub held : BTreeMap (List Pair) (Vec Series Global) → List Pair → Option (List Series)
held groups key = option_map (λ list. list.items) (get tags_cmp groups key)

-- one more series is put behind the others of its key, and nothing else changes
abbrev pub AddsMember : BTreeMap (List Pair) (Vec Series Global) → List Pair → Series → BTreeMap (List Pair) (Vec Series Global) → Type 0
AddsMember old key one new = (q : List Pair) → held new q ≡ (if is_same_tags key q then Some (unwrap_or (held old q) [] ++ one ∷ []) else held old q)

-- the map has the members of each group, in order
abbrev pub AreGroups : Sub → List Series → BTreeMap (List Pair) (Vec Series Global) → Type 0
AreGroups s series groups = map (λ e. e.1.items) groups.entries ≡ members_in s series

-- the points of one more series are kept, or the earlier of the times that stand in place of some
abbrev pub Keeps : List (List (ℕ × ℤ)) → Option ℕ → Result (List (ℕ × ℤ)) DownFault → List (List (ℕ × ℤ)) → Option ℕ → Type 0
Keeps lists least (Ok dots) more now = (more ≡ lists ++ dots ∷ []) × (now ≡ least)
Keeps lists least (Err (down.Overflow time)) more now = (more ≡ lists) × (now ≡ Some (earliest least time))
Keeps lists least (Err down.OutOfMemory) more now = ⊥

-- the tags of the series and their points, or the time that stands in place of the points; want of memory may always be told
abbrev pub GivesLists : Result (Vec (List Pair) Global × Vec (List (ℕ × ℤ)) Global) AggFault → List Series → Result (List (List (ℕ × ℤ))) ℕ → Type 0
GivesLists (Ok both) series wanted = (both.0.items ≡ tags_kept series) × (wanted ≡ Ok both.1.items)
GivesLists (Err (Overflow time)) series wanted = wanted ≡ Err time
GivesLists (Err OutOfMemory) series wanted = Unit {0}

-- the group that is wanted, or the time that stands in its place; want of memory may always be told
abbrev pub GivesGroup : Result code.Group AggFault → Result Group ℕ → Type 0
GivesGroup (Ok group) wanted = wanted ≡ Ok (plain group)
GivesGroup (Err (Overflow time)) wanted = wanted ≡ Err time
GivesGroup (Err OutOfMemory) wanted = Unit {0}

-- the groups that are wanted, or the time that stands in their place
abbrev pub GivesGroups : Result (Vec code.Group Global) AggFault → Result (List Group) ℕ → Type 0
GivesGroups (Ok groups) wanted = wanted ≡ Ok (map plain groups.items)
GivesGroups (Err (Overflow time)) wanted = wanted ≡ Err time
GivesGroups (Err OutOfMemory) wanted = Unit {0}

-- the times of points in seconds are whole
abbrev pub AreWhole : Bool → List (ℕ × ℤ) → Type 0
AreWhole ms dots = ms ≡ false → All (λ d. d.0 % 1000 ≡ 0) dots
