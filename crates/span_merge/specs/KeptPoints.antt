-- What is kept of the points of a series.
use Rattle.std.specs.Prelude.{◌≡◌, ℕ, ℤ, List, ◌++◌, All, Option, None, Some, box_value}
use Rattle.tsd_base.specs.declared.kinds.Down.{Down}
use Rattle.tsd_base.specs.Dots.{IsAboveAll}
use Rattle.downsample.specs.BucketFolds.{Folds}
use Rattle.downsample.specs.declared.bucket_fold.BucketFold.{BucketFold}
use Rattle.span_merge.specs.declared.kept_points.Kept.{Kept}
use Rattle.span_merge.specs.declared.kept_points.Kept.TheVariants.{Points, Buckets}

-- it has folded these points into the buckets of a downsample
pub record FoldsBy (down : Down) (fold : BucketFold) (points : List (ℕ × ℤ)) : Type 0 where
  pub interval : fold.interval ≡ down.interval
  pub function : fold.function ≡ down.function
  pub folds : Folds fold points

abbrev pub FoldsFor : Option Down → BucketFold → List (ℕ × ℤ) → Type 0
FoldsFor None fold points = ⊥
FoldsFor (Some down) fold points = FoldsBy down fold points

-- these points are kept, of a series that is downsampled so, or isn't
abbrev pub Keeps : Option Down → Kept → List (ℕ × ℤ) → Type 0
Keeps how (Points dots) points = dots ≡ points
Keeps how (Buckets fold) points = FoldsFor how (box_value fold) points

-- later points may be added
pub record Takes (kept : Kept) (later : List (ℕ × ℤ)) : Type 0 where
  pub how : Option Down
  pub points : List (ℕ × ℤ)
  pub keeps : Keeps how kept points
  pub above : All (λ d. IsAboveAll d.0 points) later

-- later points were added
abbrev pub KeepsMore : Kept → Kept → List (ℕ × ℤ) → Type 0
KeepsMore old new later = (how : Option Down) (points : List (ℕ × ℤ)) → Keeps how old points → All (λ d. IsAboveAll d.0 points) later → Keeps how new (points ++ later)
