use Rattle.std.proofs.Common.{◌≡◌, List, ℕ, ℤ, box_value, subst, rules}
use Rattle.downsample.specs.Downsampling.{GivesDown}
use Rattle.series_groups.specs.QueryAnswers.{down_to}
use Rattle.series_groups.proofs.Finishing.{fold_ends, folded, folds_points, same_points}
use Rattle.series_groups.proofs.series_groups.finish.Goals as goal

pub finish-requires : goal.finish-requires
finish-requires c =
    let same : c.into_inner.result ≡ box_value c.in-Buckets.fold = search rules in
    let points = c.requires.kept.0 in
    record { folds = (points, folds_points c.args.how c.into_inner.result points (folded c.args.how c.args.kept c.in-Buckets.fold c.into_inner.result points same c.in-Buckets.is c.requires.kept.1.keeps)) }

pub returns-in-Points : goal.returns-in-Points
returns-in-Points c = λ points kept. subst (λ (l : List (ℕ × ℤ)). GivesDown c.down_to.result (down_to c.args.how c.args.start c.args.end l)) (same_points c.args.how c.args.kept c.in-Points.dots points c.in-Points.is kept.keeps) c.down_to.ensures

pub returns-in-Buckets : goal.returns-in-Buckets
returns-in-Buckets c = λ points kept.
    let same : c.into_inner.result ≡ box_value c.in-Buckets.fold = search rules in
    let folds = folded c.args.how c.args.kept c.in-Buckets.fold c.into_inner.result points same c.in-Buckets.is kept.keeps in
    fold_ends c.args.how c.args.start c.args.end c.into_inner.result points c.finish.result c.requires.unfilled folds (c.finish.ensures points (folds_points c.args.how c.into_inner.result points folds))
