-- The series of a sub query, as the making of groups wants them.
use Rattle.std.proofs.Common.{ℕ, ◌≤◌, List, length, sym, subst}
use Rattle.std.specs.Prelude.{ℤ, All, Contains}
use Rattle.std.proofs.lemmas.List.Elements.{All-contains}
use Rattle.query_text.specs.declared.queries.Query.{Query}
use Rattle.query_text.specs.declared.queries.Sub.{Sub}
use Rattle.span_merge.specs.KeptPoints.{Keeps}
use Rattle.span_merge.specs.Spans.{Span}
use Rattle.query_run.specs.declared.collection.Collected.{Collected}
use Rattle.series_groups.specs.declared.named_series.Series as kept
use Rattle.series_groups.specs.NamedSeries.{Series}
use Rattle.series_groups.specs.KeptSeries.{KeepsWithin, with_points, all_with_points}
use Rattle.series_groups.specs.QueryAnswers.{down_by}
use Rattle.metric_scan.specs.RowNames.{Names, known}
use Rattle.query_run.specs.SeriesTags.{Titles, TitlesKept}
use Rattle.series_groups.specs.SeriesGroups.{AreSeriesFor}
use Rattle.query_run.specs.SubQuery.{AreCollected}
use Rattle.query_run.proofs.Lower as lower

some_dots : (names : Names) (spans : List Span) (series : List Series) → Titles names spans series → ((s : Span) → Contains spans s → 1 ≤ length s.1) → All (λ (t : Series). 1 ≤ length t.dots) series
some_dots names spans series t some =
    lower.all_of (λ (x : Series). 1 ≤ length x.dots) series (λ x c. let w = t.each x c in subst (λ (l : List (ℕ × ℤ)). 1 ≤ length l) (sym w.2.dots_are) (some w.0 w.1))

pub are_series : (q : Query) (s : Sub) (c : Collected) (spans : List Span) (series : List kept.Series) → AreCollected q s c spans → (t : TitlesKept (down_by q.ms s.how s.down) (known c.names) spans series) → AreSeriesFor q s t.of series
are_series q s c spans series are t = record {
  keeps = lower.all_of (λ (x : kept.Series). KeepsWithin (down_by q.ms s.how s.down) q.start q.end x.kept (t.of x.tags)) series (λ x i.
      let w = t.titles.each (with_points t.of x) (lower.in_map (with_points t.of) series x i) in
      record {
        keeps = All-contains (λ (y : kept.Series). Keeps (down_by q.ms s.how s.down) y.kept (t.of y.tags)) series x t.keeps i;
        low = lower.all_of (λ (d : ℕ × ℤ). q.start ≤ d.0) (t.of x.tags) (λ d j. (are.within w.0 d w.1 (subst (λ (l : List (ℕ × ℤ)). Contains l d) w.2.dots_are j)).0);
        high = lower.all_of (λ (d : ℕ × ℤ). d.0 ≤ q.end) (t.of x.tags) (λ d j. (are.within w.0 d w.1 (subst (λ (l : List (ℕ × ℤ)). Contains l d) w.2.dots_are j)).1);
      });
  rising = t.titles.rising;
  some = some_dots (known c.names) spans (all_with_points t.of series) t.titles are.some;
}
