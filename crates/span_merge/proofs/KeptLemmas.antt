-- What is kept of the points of one series.
use Rattle.std.proofs.Common.{◌≡◌, ℕ, ℤ, List, [], ◌++◌, sym, ap, subst, ◌∙◌}
use Rattle.std.specs.Global.{Box}
use Rattle.std.specs.Prelude.{All, box_value, Option, None, Some, Result, OnOk, OnErr, Ok, Err}
use Rattle.tsd_base.specs.declared.kinds.Down.{Down}
use Rattle.tsd_base.specs.Dots.{IsAboveAll}
use Rattle.downsample.specs.BucketFolds.{Folds, FoldsMore, Follows}
use Rattle.downsample.specs.declared.bucket_fold.BucketFold.{BucketFold}
use Rattle.span_merge.specs.KeptPoints.{FoldsBy, FoldsFor, Keeps, KeepsMore, Takes}
use Rattle.span_merge.specs.declared.kept_points.Kept.{Kept}
use Rattle.span_merge.specs.declared.kept_points.Kept.TheVariants.{Points, Buckets}

-- ---- the first points

pub first_follow : (fold : BucketFold) (list : List (ℕ × ℤ)) → Folds fold [] → Follows [] fold list
first_follow fold list folds = record { points = []; folds = folds; above = λ k d within. tt }

pub first_kept : (how : Option Down) (down : Down) (old new : BucketFold) (boxed : Box BucketFold) (dots list : List (ℕ × ℤ)) → list ≡ dots → box_value boxed ≡ new → how ≡ Some down → old.interval ≡ down.interval → old.function ≡ down.function → Folds old []
    → new.interval ≡ old.interval → new.function ≡ old.function → FoldsMore [] old new list → Keeps how (Buckets boxed) dots
first_kept how down old new boxed dots list listed value is interval function folds same_interval same_function more =
    subst (λ (h : Option Down). FoldsFor h (box_value boxed) dots) (sym is) (subst (λ (f : BucketFold). FoldsBy down f dots) (sym value)
    (record { interval = same_interval ∙ interval; function = same_function ∙ function; folds = subst (Folds new) listed (more [] folds (λ k d within. tt)) }))

-- ---- later ones

points_are : (how : Option Down) (kept : Kept) (dots points : List (ℕ × ℤ)) → kept ≡ Points dots → Keeps how kept points → dots ≡ points
points_are how kept dots points is keeps = subst (λ (k : Kept). Keeps how k points) is keeps

pub above_kept : (kept : Kept) (dots later : List (ℕ × ℤ)) → kept ≡ Points dots → Takes kept later → All (λ d. IsAboveAll d.0 dots) later
above_kept kept dots later is t = subst (λ (l : List (ℕ × ℤ)). All (λ d. IsAboveAll d.0 l) later) (sym (points_are t.how kept dots t.points is t.keeps)) t.above

pub points_more : (kept : Kept) (dots new later : List (ℕ × ℤ)) → kept ≡ Points dots → new ≡ dots ++ later → KeepsMore kept (Points new) later
points_more kept dots new later is more how points keeps above = more ∙ ap (λ (l : List (ℕ × ℤ)). l ++ later) (points_are how kept dots points is keeps)

fold_is : (how : Option Down) (kept : Kept) (fold : Box BucketFold) (points : List (ℕ × ℤ)) → kept ≡ Buckets fold → Keeps how kept points → FoldsFor how (box_value fold) points
fold_is how kept fold points is keeps = subst (λ (k : Kept). Keeps how k points) is keeps

folds_for : (how : Option Down) (fold : BucketFold) (points : List (ℕ × ℤ)) → FoldsFor how fold points → Folds fold points
folds_for (Some down) fold points f = f.folds
folds_for None fold points f = absurd f

pub fold_follows : (kept : Kept) (fold : Box BucketFold) (old : BucketFold) (later list : List (ℕ × ℤ)) → list ≡ later → old ≡ box_value fold → kept ≡ Buckets fold → Takes kept later → Follows [] old list
fold_follows kept fold old later list listed same is t = subst (λ (f : BucketFold). Follows [] f list) (sym same) (subst (Follows [] (box_value fold)) (sym listed) (record { points = t.points; folds = folds_for t.how (box_value fold) t.points (fold_is t.how kept fold t.points is t.keeps); above = t.above }))

more_for : (how : Option Down) (fold new : BucketFold) (points later : List (ℕ × ℤ)) → new.interval ≡ fold.interval → new.function ≡ fold.function → FoldsMore [] fold new later → FoldsFor how fold points → All (λ d. IsAboveAll d.0 points) later → FoldsFor how new (points ++ later)
more_for (Some down) fold new points later interval function more f above = record { interval = interval ∙ f.interval; function = function ∙ f.function; folds = more points f.folds above }
more_for None fold new points later interval function more f above = absurd f

pub fold_more : (kept : Kept) (fold boxed : Box BucketFold) (old new : BucketFold) (later list : List (ℕ × ℤ)) → list ≡ later → old ≡ box_value fold → kept ≡ Buckets fold → box_value boxed ≡ new → new.interval ≡ old.interval → new.function ≡ old.function → FoldsMore [] old new list → KeepsMore kept (Buckets boxed) later
fold_more kept fold boxed old new later list listed same is value interval function more how points keeps above =
    subst (λ (f : BucketFold). FoldsFor how f (points ++ later)) (sym value)
    (more_for how old new points later interval function (subst (FoldsMore [] old new) listed more) (subst (λ (f : BucketFold). FoldsFor how f points) (sym same) (fold_is how kept fold points is keeps)) above)

-- a fold that is as before is kept as before
pub fold_same : (kept : Kept) (fold : Box BucketFold) (old new : BucketFold) → old ≡ box_value fold → kept ≡ Buckets fold → new ≡ old → Buckets (record fold { value = new }) ≡ kept
fold_same kept fold old new same is unchanged = ap (λ (f : BucketFold). Buckets (record fold { value = f })) (unchanged ∙ same) ∙ sym is

pub on_ok : {A E P Q : Type 0} (r : Result A E) → (P → Q) → OnOk r P → OnOk r Q
on_ok (Ok x) f p = f p
on_ok (Err e) f p = p

pub on_err : {A E P Q : Type 0} (r : Result A E) → (P → Q) → OnErr r P → OnErr r Q
on_err (Ok x) f p = p
on_err (Err e) f p = f p
