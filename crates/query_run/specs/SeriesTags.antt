-- Series under the names of their tags, in place of the ids.
use Rattle.std.specs.Prelude.{◌≡◌, ℕ, ℤ, List, All, AllPairs, Contains, Option}
use Rattle.std.specs.declared.cmp.Ordering.TheVariants.{Less}
use Rattle.tsd_base.specs.TagList.{tags_cmp}
use Rattle.cell_model.specs.Readings.{Named}
use Rattle.tsd_base.specs.declared.kinds.Down.{Down}
use Rattle.span_merge.specs.KeptPoints.{Keeps}
use Rattle.span_merge.specs.Spans.{Span}
use Rattle.span_merge.specs.declared.series.Series as by_ids
use Rattle.series_groups.specs.declared.named_series.Series as kept
use Rattle.series_groups.specs.KeptSeries.{PointsOf, all_with_points}
use Rattle.series_groups.specs.NamedSeries.{Series}
use Rattle.metric_scan.specs.RowNames.{Names}
use Rattle.metric_scan.specs.RowTags.{ArePairs, OneToOne}

-- the series has the names of these ids, and the same points
pub record IsTitled (names : Names) (pairs : List (ℕ × ℕ)) (dots : List (ℕ × ℤ)) (series : Series) : Type 0 where
  pub tags : Named names pairs series.tags
  pub dots_are : series.dots ≡ dots

-- the series are those by ids, rising by their tags
pub record Titles (names : Names) (spans : List Span) (series : List Series) : Type 0 where
  pub rising : AllPairs (λ s t. tags_cmp s.tags t.tags ≡ Less) series
  pub each : (t : Series) → Contains series t → (s : Span) × Contains spans s × IsTitled names s.0 s.1 t
  pub all : (s : Span) → Contains spans s → (t : Series) × Contains series t × IsTitled names s.0 s.1 t

-- the series has the names of the ids of that one, and keeps the same
abbrev pub IsRenamed : Names → by_ids.Series → kept.Series → Type 0
IsRenamed names s t = Named names s.pairs.items t.tags × (t.kept ≡ s.kept)

-- with their points, the series are those by ids, rising by their tags
pub record TitlesKept (how : Option Down) (names : Names) (spans : List Span) (series : List kept.Series) : Type 0 where
  pub of : PointsOf
  pub keeps : All (λ s. Keeps how s.kept (of s.tags)) series
  pub titles : Titles names spans (all_with_points of series)

-- names can stand for the ids
pub record CanTitle (names : Names) (spans : List Span) : Type 0 where
  pub one : OneToOne names
  pub each : (s : Span) → Contains spans s → ArePairs names s.0
