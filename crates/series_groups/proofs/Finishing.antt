-- What was kept of series, finished one after the other.
use Rattle.std.proofs.Common.{◌≡◌, ℕ, ℤ, ◌≤◌, List, [], ◌∷◌, map, get_or, sym, ap, subst, ◌∙◌, arith}
use Rattle.std.specs.Global.{Box}
use Rattle.std.specs.Prelude.{All, box_value, Option, Some, None, Result}
use Rattle.std.proofs.lemmas.List.Elements.{All-head, All-tail, All-map}
use Rattle.tsd_base.specs.declared.times.TheConstants.{LAST_TIME}
use Rattle.tsd_base.specs.declared.kinds.Down.{Down}
use Rattle.downsample.specs.Downsampling.{GivesDown}
use Rattle.downsample.specs.declared.downsampling.DownFault.{DownFault}
use Rattle.downsample.specs.declared.bucket_fold.BucketFold.{BucketFold}
use Rattle.downsample.specs.BucketFolds.{Folds}
use Rattle.downsample.specs.Folding.{in_buckets}
use Rattle.downsample.proofs.Filling.{not_filled}
use Rattle.span_merge.specs.KeptPoints.{FoldsFor}
use Rattle.span_merge.specs.KeptPoints as kept_points
use Rattle.span_merge.specs.declared.kept_points.Kept.{Kept}
use Rattle.span_merge.specs.declared.kept_points.Kept.TheVariants.{Points, Buckets}
use Rattle.series_groups.specs.declared.named_series.Series as kept
use Rattle.series_groups.specs.FilledSeries.{IsUnfilled}
use Rattle.series_groups.specs.QueryAnswers.{all_or_least, down_to}
use Rattle.series_groups.specs.SeriesGroups.{Keeps}
use Rattle.series_groups.specs.KeptSeries.{PointsOf, dots_kept, KeepsWithin, KeepsEach}
use Rattle.series_groups.specs.NamedSeries.{AreEarly}
use Rattle.series_groups.proofs.Lists.{joined, joined_none, joined_more}

-- ---- one series

-- the points are those that are kept
pub same_points : (how : Option Down) (kept : Kept) (dots points : List (ℕ × ℤ)) → kept ≡ Points dots → kept_points.Keeps how kept points → dots ≡ points
same_points how kept dots points is keeps = subst (λ (k : Kept). kept_points.Keeps how k points) is keeps

-- the buckets are those of the points
pub folded : (how : Option Down) (kept : Kept) (boxed : Box BucketFold) (fold : BucketFold) (points : List (ℕ × ℤ)) → fold ≡ box_value boxed → kept ≡ Buckets boxed → kept_points.Keeps how kept points → FoldsFor how fold points
folded how kept boxed fold points same is keeps = subst (λ (f : BucketFold). FoldsFor how f points) (sym same) (subst (λ (k : Kept). kept_points.Keeps how k points) is keeps)

pub folds_points : (how : Option Down) (fold : BucketFold) (points : List (ℕ × ℤ)) → FoldsFor how fold points → Folds fold points
folds_points None fold points folds = absurd folds
folds_points (Some down) fold points folds = folds.folds

-- they are the downsampled series
pub fold_ends : (how : Option Down) (start end : ℕ) (fold : BucketFold) (points : List (ℕ × ℤ)) (result : Result (List (ℕ × ℤ)) DownFault) → IsUnfilled how → FoldsFor how fold points → GivesDown result (in_buckets fold.function fold.interval points) → GivesDown result (down_to how start end points)
fold_ends None start end fold points result plain folds gives = absurd folds
fold_ends (Some down) start end fold points result plain folds gives = not_filled down start end points result plain folds.folds.0 (subst (GivesDown result) (λ j. in_buckets (folds.function j) (folds.interval j) points) gives)

early_all : (end : ℕ) (points : List (ℕ × ℤ)) → end ≤ LAST_TIME → All (λ (d : ℕ × ℤ). d.0 ≤ end) points → AreEarly points
early_all end points most high k d within = let up : (get_or points k d).0 ≤ end = high k d within in omega (arith, most, up)

-- ---- one after the other

-- so far these lists were made, or a time stands in place of some, and the others are left
pub record Apart (how : Option Down) (start end : ℕ) (of : PointsOf) (all rest : List kept.Series) (lists : List (List (ℕ × ℤ))) (least : Option ℕ) : Type 0 where
  pub lists_are : joined lists least (all_or_least (map (down_to how start end) (dots_kept of rest))) ≡ all_or_least (map (down_to how start end) (dots_kept of all))
  pub keeps : KeepsEach how start end of rest

module _ (how : Option Down) (start end : ℕ) where
  pub apart_none : (of : PointsOf) (all : List kept.Series) → KeepsEach how start end of all → Apart how start end of all all [] None
  apart_none of all keeps = record { lists_are = joined_none (all_or_least (map (down_to how start end) (dots_kept of all))); keeps = keeps }

  abbrev KeepsOne : PointsOf → kept.Series → Type 0
  KeepsOne of s = KeepsWithin how start end s.kept (of s.tags)

  pub first_kept : (of : PointsOf) (all rest later : List kept.Series) (one : kept.Series) (lists : List (List (ℕ × ℤ))) (least : Option ℕ) → rest ≡ one ∷ later → Apart how start end of all rest lists least → KeepsWithin how start end one.kept (of one.tags)
  first_kept of all rest later one lists least is a = All-head (KeepsOne of) one later (subst (All (KeepsOne of)) is a.keeps)

  pub apart_more : (of : PointsOf) (all rest later : List kept.Series) (one : kept.Series) (lists more : List (List (ℕ × ℤ))) (least now : Option ℕ) (result : Result (List (ℕ × ℤ)) DownFault) → rest ≡ one ∷ later
      → ((points : List (ℕ × ℤ)) → KeepsWithin how start end one.kept points → GivesDown result (down_to how start end points)) → Keeps lists least result more now → Apart how start end of all rest lists least → Apart how start end of all later more now
  apart_more of all rest later one lists more least now result is gives keep a = record {
    lists_are = sym (joined_more lists more least now result (down_to how start end (of one.tags)) (map (down_to how start end) (dots_kept of later)) (gives (of one.tags) (first_kept of all rest later one lists least is a)) keep)
        ∙ ap (λ (l : List kept.Series). joined lists least (all_or_least (map (down_to how start end) (dots_kept of l)))) (sym is)
        ∙ a.lists_are;
    keeps = All-tail (KeepsOne of) one later (subst (All (KeepsOne of)) is a.keeps);
  }

-- the points of each are early
pub each_early : (how : Option Down) (start end : ℕ) (of : PointsOf) (series : List kept.Series) → end ≤ LAST_TIME → KeepsEach how start end of series → All AreEarly (dots_kept of series)
each_early how start end of series most keeps =
    All-map AreEarly (λ (s : kept.Series). of s.tags) series (λ k d within. early_all end _ most (keeps k d within).high)
