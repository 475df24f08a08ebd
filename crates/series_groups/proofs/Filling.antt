-- The series of a group without a fill, and filled.
use Rattle.std.proofs.Common.{◌≡◌, ℕ, ℤ, ◌<◌, ◌≤◌, ◌^◌, List, [], ◌∷◌, length, map, get_or, refl, sym, ap, subst, ◌∙◌, arith}
use Rattle.std.specs.Prelude.{All, IfSome, Option, Some, None, Vec, Result, Ok, Err}
use Rattle.std.specs.declared.alloc.Global.{Global}
use Rattle.std.proofs.lemmas.List.{length-map}
use Rattle.std.proofs.lemmas.List.Elements.{All-head, All-tail, All-map}
use Rattle.tsd_base.specs.declared.times.TheConstants.{LAST_TIME}
use Rattle.tsd_base.specs.declared.kinds.Fill.{Fill}
use Rattle.tsd_base.specs.declared.kinds.Fill.TheVariants.{NoFill, Zero}
use Rattle.tsd_base.specs.declared.kinds.Down.{Down}
use Rattle.tsd_base.specs.TagList.{Pair}
use Rattle.lerp_aggregate.specs.FilledGroups.{IsOn, filled, times_from}
use Rattle.lerp_aggregate.specs.declared.aggregation.AggFault.{AggFault}
use Rattle.lerp_aggregate.specs.declared.aggregation.AggFault.TheVariants.{Overflow, OutOfMemory}
use Rattle.lerp_aggregate.proofs.CallerLemmas.{length-times}
use Rattle.downsample.specs.Buckets.{all_buckets, bucket_of}
use Rattle.downsample.specs.Downsampling.{downsampled, in_order}
use Rattle.downsample.proofs.Order.{in_order_rises}
use Rattle.downsample.proofs.Unfilled.{filled_fails, filled_later}
use Rattle.span_merge.specs.KeptPoints.{Keeps}
use Rattle.span_merge.specs.declared.kept_points.Kept.{Kept}
use Rattle.span_merge.specs.declared.kept_points.Kept.TheVariants.{Points, Buckets}
use Rattle.series_groups.specs.FilledSeries.{AreOn, AreOnBy, GivesUnfilled, IsUnfilled, filled_by, filled_to, unfilled}
use Rattle.series_groups.specs.QueryAnswers.{all_or_least, down_to, first_and}
use Rattle.series_groups.specs.KeptSeries.{KeepsEach, PointsOf, dots_kept}
use Rattle.series_groups.specs.SeriesGroups.{GivesLists, IsDown}
use Rattle.series_groups.specs.declared.named_series.Series.{Series}
use Rattle.series_groups.proofs.Lists.{all_are, all_buckets_are, as_many, lists_early, ordered_are}
use Rattle.series_groups.proofs.Finishing.{each_early}

abbrev Dots : Type 0
Dots = List (ℕ × ℤ)

-- the points are from start to end
abbrev IsWithin : ℕ → ℕ → Dots → Type 0
IsWithin start end dots = All (λ p. start ≤ p.0) dots × All (λ p. p.0 ≤ end) dots

-- ---- what is made without a fill, filled

abbrev with_zeros : ℕ → ℕ → ℕ → Result Dots ℕ → Result Dots ℕ
with_zeros interval start end (Ok dots) = Ok (filled (all_buckets interval start end) dots)
with_zeros interval start end (Err time) = Err time

abbrev fill_all : Fill → ℕ → ℕ → ℕ → Result (List Dots) ℕ → Result (List Dots) ℕ
fill_all fill interval start end (Ok lists) = Ok (filled_by fill interval start end lists)
fill_all fill interval start end (Err time) = Err time

unchanged : (i start end : ℕ) (lists : Result (List Dots) ℕ) → lists ≡ fill_all NoFill i start end lists
unchanged i start end (Ok lists) = refl
unchanged i start end (Err time) = refl

zeros_first : (i start end : ℕ) (one : Result Dots ℕ) (rest : Result (List Dots) ℕ) → first_and (with_zeros i start end one) (fill_all Zero i start end rest) ≡ fill_all Zero i start end (first_and one rest)
zeros_first i start end (Ok dots) (Ok lists) = refl
zeros_first i start end (Ok dots) (Err time) = refl
zeros_first i start end (Err time) (Ok lists) = refl
zeros_first i start end (Err time) (Err other) = refl

module _ (down : Down) (start end : ℕ) (some : 1 ≤ down.interval) (order : start ≤ end) where
  abbrev without : Dots → Result Dots ℕ
  without dots = downsampled (record down { fill = NoFill }) start end dots

  low : (dots : Dots) → IsWithin start end dots → All (λ (p : ℕ × ℤ). start ≤ p.0) (in_order dots)
  low dots within = ordered_are (λ t. start ≤ t) dots within.0

  high : (dots : Dots) → IsWithin start end dots → All (λ (p : ℕ × ℤ). p.0 ≤ end) (in_order dots)
  high dots within = ordered_are (λ t. t ≤ end) dots within.1

  module _ (fill : down.fill ≡ Zero) where
    one_filled : (dots : Dots) → IsWithin start end dots → (made : Result Dots ℕ) → without dots ≡ made → downsampled down start end dots ≡ with_zeros down.interval start end made
    one_filled dots within (Ok out) is = (filled_later down start end dots fill some order (low dots within) (high dots within) out is).0
    one_filled dots within (Err time) is = filled_fails down start end dots fill some order (low dots within) (high dots within) (in_order_rises dots) time is

    each_filled : (from : List Dots) → All (IsWithin start end) from → all_or_least (map (downsampled down start end) from) ≡ fill_all Zero down.interval start end (all_or_least (map without from))
    each_filled [] within = refl
    each_filled (dots ∷ from) within =
        let first = one_filled dots (All-head (IsWithin start end) dots from within) (without dots) refl in
        let rest = each_filled from (All-tail (IsWithin start end) dots from within) in
        (λ j. first_and (first j) (rest j)) ∙ zeros_first down.interval start end (without dots) (all_or_least (map without from))

  module _ (from : List Dots) (within : All (IsWithin start end) from) where
    fill_by : (fill : Fill) → down.fill ≡ fill → all_or_least (map (downsampled down start end) from) ≡ fill_all fill down.interval start end (all_or_least (map without from))
    fill_by NoFill is = ap (λ f. all_or_least (map (downsampled (record down { fill = f }) start end) from)) is ∙ unchanged down.interval start end (all_or_least (map without from))
    fill_by Zero is = each_filled is from within

    on_by : (fill : Fill) → down.fill ≡ fill → (lists : List Dots) → all_or_least (map without from) ≡ Ok lists → AreOnBy fill down.interval start end lists
    on_by NoFill is lists are = tt
    on_by Zero is lists are =
        all_are (IsOn (all_buckets down.interval start end)) without (IsWithin start end)
        (λ dots out inside made. (filled_later down start end dots is some order (low dots inside) (high dots inside) out made).1) from lists within are

-- ---- the series of a group

keeps_one : (how : Option Down) (kept : Kept) (points : Dots) → Keeps how kept points → Keeps (unfilled how) kept points
keeps_one how (Points dots) points keeps = keeps
keeps_one None (Buckets fold) points keeps = absurd keeps
keeps_one (Some down) (Buckets fold) points keeps = record { interval = keeps.interval; function = keeps.function; folds = keeps.folds }

pub keeps_unfilled : (how : Option Down) (start end : ℕ) (of : PointsOf) (series : List Series) → KeepsEach how start end of series → KeepsEach (unfilled how) start end of series
keeps_unfilled how start end of series keeps k d inside =
    let one = keeps k d inside in
    record { keeps = keeps_one how (get_or series k d).kept (of (get_or series k d).tags) one.keeps; low = one.low; high = one.high }

pub down_unfilled : (how : Option Down) (start end : ℕ) → IfSome how (IsDown start end) → IfSome (unfilled how) (IsDown start end)
down_unfilled None start end can = tt
down_unfilled (Some down) start end can = record { some = can.some; few = λ is. absurd cc }

pub is_unfilled : (how : Option Down) → IsUnfilled (unfilled how)
is_unfilled None = tt
is_unfilled (Some down) = refl

module _ (start end : ℕ) (order : start ≤ end) (from : List Dots) (within : All (IsWithin start end) from) where
  gives_filled : (how : Option Down) → IfSome how (IsDown start end) → (lists : List Dots) → all_or_least (map (down_to (unfilled how) start end) from) ≡ Ok lists → all_or_least (map (down_to how start end) from) ≡ Ok (filled_to how start end lists)
  gives_filled None can lists are = are
  gives_filled (Some down) can lists are = fill_by down start end can.some order from within down.fill refl ∙ ap (fill_all down.fill down.interval start end) are

  gives_on : (how : Option Down) → IfSome how (IsDown start end) → (lists : List Dots) → all_or_least (map (down_to (unfilled how) start end) from) ≡ Ok lists → AreOn how start end lists
  gives_on None can lists are = tt
  gives_on (Some down) can lists are = on_by down start end can.some order from within down.fill refl lists are

  gives_time : (how : Option Down) → IfSome how (IsDown start end) → (time : ℕ) → all_or_least (map (down_to (unfilled how) start end) from) ≡ Err time → all_or_least (map (down_to how start end) from) ≡ Err time
  gives_time None can time is = is
  gives_time (Some down) can time is = fill_by down start end can.some order from within down.fill refl ∙ ap (fill_all down.fill down.interval start end) is

module _ (how : Option Down) (start end : ℕ) (can : IfSome how (IsDown start end)) (order : start ≤ end) (most : end ≤ LAST_TIME) (of : PointsOf) (series : List Series) (keeps : KeepsEach how start end of series) where
  within : All (IsWithin start end) (dots_kept of series)
  within = All-map (IsWithin start end) (λ (s : Series). of s.tags) series (λ k d inside. ((keeps k d inside).low, (keeps k d inside).high))

  pub gives_unfilled : (result : Result (Vec (List Pair) Global × Vec Dots Global) AggFault) → GivesLists result series (all_or_least (map (down_to (unfilled how) start end) (dots_kept of series)))
      → GivesUnfilled how start end result series (all_or_least (map (down_to how start end) (dots_kept of series)))
  gives_unfilled (Ok both) gives = record {
    tags_are = gives.0;
    are = gives_filled start end order (dots_kept of series) within how can both.1.items gives.1;
    on = gives_on start end order (dots_kept of series) within how can both.1.items gives.1;
    early = lists_early (unfilled how) start end (down_unfilled how start end can) order most (dots_kept of series) (each_early how start end of series most keeps) both.1.items gives.1;
    count = as_many (down_to (unfilled how) start end) (dots_kept of series) both.1.items gives.1 ∙ length-map series (λ (s : Series). of s.tags);
  }
  gives_unfilled (Err (Overflow time)) gives = gives_time start end order (dots_kept of series) within how can time gives
  gives_unfilled (Err OutOfMemory) gives = tt

-- ---- what they are aggregated to

module _ (how : Option Down) (start end : ℕ) (lists : List Dots) where
  pub fills_none : how ≡ None → filled_to how start end lists ≡ lists
  fills_none is = ap (λ h. filled_to h start end lists) is

  module _ (down : Down) (is : how ≡ Some down) where
    pub fills_nothing : down.fill ≡ NoFill → filled_to how start end lists ≡ lists
    fills_nothing fill = ap (λ h. filled_to h start end lists) is ∙ ap (λ f. filled_by f down.interval start end lists) fill

    pub fills_zeros : down.fill ≡ Zero → filled_to how start end lists ≡ map (filled (all_buckets down.interval start end)) lists
    fills_zeros fill = ap (λ h. filled_to h start end lists) is ∙ ap (λ f. filled_by f down.interval start end lists) fill

    pub zeros_on : down.fill ≡ Zero → AreOn how start end lists → All (IsOn (all_buckets down.interval start end)) lists
    zeros_on fill on = subst (λ (f : Fill). AreOnBy f down.interval start end lists) fill (subst (λ (h : Option Down). AreOn h start end lists) is on)

module _ (interval start end first count : ℕ) (first_is : first ≡ bucket_of interval start) (count_is : count ≡ length (all_buckets interval start end)) where
  pub times_are : times_from interval first count ≡ all_buckets interval start end
  times_are = λ j. times_from interval (first_is j) ((count_is ∙ length-times interval _ _) j)

  pub times_early : 1 ≤ interval → start ≤ end → end ≤ LAST_TIME → All (λ time. time < 2 ^ 43) (times_from interval first count)
  times_early some order most = subst (All (λ time. time < 2 ^ 43)) (sym times_are) (λ k d inside. (all_buckets_are interval start end some order (omega (arith, most)) k d inside).early)
