-- What is kept of the series of a metric, and their points.
use Rattle.std.specs.Prelude.{ℕ, ◌≤◌, ℤ, List, map, All, Option}
use Rattle.tsd_base.specs.declared.kinds.Down.{Down}
use Rattle.tsd_base.specs.TagList.{Pair}
use Rattle.span_merge.specs.KeptPoints.{Keeps}
use Rattle.span_merge.specs.declared.kept_points.Kept.{Kept}
use Rattle.series_groups.specs.declared.named_series.Series as kept
use Rattle.series_groups.specs.NamedSeries.{Series, RiseByTags, HavePoints}

-- the points of each series, by its tags
abbrev pub PointsOf : Type 0
PointsOf = List Pair → List (ℕ × ℤ)

-- the tags of series, and their points
abbrev pub tags_kept : List kept.Series → List (List Pair)
tags_kept series = map (λ s. s.tags) series

abbrev pub dots_kept : PointsOf → List kept.Series → List (List (ℕ × ℤ))
dots_kept of series = map (λ s. of s.tags) series

-- the series with their points
abbrev pub with_points : PointsOf → kept.Series → Series
with_points of s = record { tags = s.tags; dots = of s.tags }

abbrev pub all_with_points : PointsOf → List kept.Series → List Series
all_with_points of series = map (with_points of) series

-- these points, which are from start to end, are kept
pub record KeepsWithin (how : Option Down) (start end : ℕ) (kept : Kept) (points : List (ℕ × ℤ)) : Type 0 where
  pub keeps : Keeps how kept points
  pub low : All (λ d. start ≤ d.0) points
  pub high : All (λ d. d.0 ≤ end) points

-- so are the points of each series
abbrev pub KeepsEach : Option Down → ℕ → ℕ → PointsOf → List kept.Series → Type 0
KeepsEach how start end of series = All (λ s. KeepsWithin how start end s.kept (of s.tags)) series

-- and the series rise by their tags, each with a point
pub record AreSeries (how : Option Down) (start end : ℕ) (of : PointsOf) (series : List kept.Series) : Type 0 where
  pub keeps : KeepsEach how start end of series
  pub rising : RiseByTags (all_with_points of series)
  pub some : HavePoints (all_with_points of series)
