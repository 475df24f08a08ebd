-- Texts that add a value to a series that is known.
use Rattle.std.proofs.Common.{◌≡◌, ℕ, ℤ, true, false, cond, List, [], ◌∷◌, ◌++◌, Option, Some, None, Result, Ok, Err, map, refl, sym, ap, subst, ◌∙◌}
use Rattle.std.specs.Prelude.{filter}
use Rattle.std.specs.List.{AllByRecursion}
use Rattle.tsd_base.specs.Alphabet.{IsName}
use Rattle.tsd_base.specs.Points.{DataPoint, point_of}
use Rattle.tsd_base.specs.declared.text_parts.TextParts.{TextParts}
use Rattle.tsd_base.specs.TextParts.{HasTextParts}
use Rattle.tsd_base.specs.TagList.{IsTags}
use Rattle.tsd_base.specs.declared.kinds.Kind.{Kind}
use Rattle.tsd_base.specs.declared.points.PointFault.{PointFault}
use Rattle.cell_model.specs.Layout.{IsPoint, names_of}
use Rattle.cell_model.specs.Seen.{Seen}
use Rattle.batch_job.specs.AddedTexts.{AddsAt, AddsText, AddsToSeries, AddsValue}
use Rattle.batch_job.specs.PendingSeries.{all_values}
use Rattle.batch_job.specs.declared.pending_series.PendingSeries.{PendingSeries}
use Rattle.batch_job.specs.Pending.{AddsPoint, so_far, unless_empty, values_of}
use Rattle.batch_job.specs.PointLines.{judged_point}
use Rattle.point_lines.specs.LinePoints.Judged.{Taken}
use Rattle.batch_job.specs.SeriesValues.{Series, SeriesEntry, is_same_series, series_of_point, values_in}
use Rattle.batch_job.specs.Storing.{Notes}
use Rattle.batch_job.specs.declared.point_line.LineOutcome.TheVariants as outcome
use Rattle.batch_job.proofs.GatherLemmas.{dot, none_not_some, or_nil, reads_full, reads_known, reads_point, same_series}
use Rattle.batch_job.proofs.SeriesReads.{point_in, text_reads_in}

-- a series that has a value is that of a point, so it has a name and tags
record IsFormed (s : Series) : Type 0 where
  pub metric : IsName s.0.0
  pub tags : IsTags s.0.1

formed : (points : List DataPoint) (s : Series) (values : List (ℕ × ℤ)) → AllByRecursion IsPoint points → unless_empty (values_of points s) ≡ Some values → IsFormed s
formed [] s values are is = absurd (none_not_some is)
formed (p ∷ ps) s values are is =
    elim (is_same_series (series_of_point p) s) as (λ b. is_same_series (series_of_point p) s ≡ b → unless_empty (map dot (cond b (p ∷ filter (λ q. is_same_series (series_of_point q) s) ps) (filter (λ q. is_same_series (series_of_point q) s) ps))) ≡ Some values → IsFormed s) [
      | true ↦ λ e _. subst IsFormed (same_series (series_of_point p) s e) (record { metric = are.0.metric; tags = are.0.tags })
      | false ↦ λ _ found. formed ps s values are.1 found
    ] refl is

-- ---- a point of a series that was there, or of one that begins
pub adds_known : (old : List SeriesEntry) (new : List SeriesEntry) (a : Seen) (p : DataPoint) (values : List (ℕ × ℤ)) → IsPoint p → values_in old (series_of_point p) ≡ Some values → AddsValue (series_of_point p) values (dot p) old new → AddsPoint (so_far a old) p None (so_far a new)
adds_known old new a p values is_point found adds points h = reads_known points (so_far a old) (so_far a new) p values h is_point found refl adds

pub adds_new : (old new : List SeriesEntry) (a b : Seen) (p : DataPoint) → IsPoint p → values_in old (series_of_point p) ≡ None → Notes a (names_of p) None b → AddsValue (series_of_point p) [] (dot p) old new → AddsPoint (so_far a old) p None (so_far b new)
adds_new old new a b p is_point none notes adds points h =
    reads_point points (so_far a old) (so_far b new) p h is_point notes
    (λ s. adds s ∙ ap (λ (o : Option (List (ℕ × ℤ))). cond (is_same_series (series_of_point p) s) (Some (or_nil o ++ dot p ∷ [])) (values_in old s)) (sym none))

pub adds_full : (old : List SeriesEntry) (a b : Seen) (p : DataPoint) (kind : Kind) → Notes a (names_of p) (Some kind) b → AddsPoint (so_far a old) p (Some kind) (so_far b old)
adds_full old a b p kind notes = (λ points h. reads_full points (so_far a old) (so_far b old) p kind h notes, refl)

-- ---- a text whose parts read as a series that was there
pub text_adds : (old new : List SeriesEntry) (a : Seen) (text : List ℕ) (parts : TextParts) → HasTextParts text parts → AddsToSeries parts old new → AddsText (so_far a old) (judged_point (point_of text)) outcome.Taken (so_far a new)
text_adds old new a text parts has adds =
    let s = adds.series in
    let p = point_in s parts in
    let same : s ≡ series_of_point p = λ i. (s.0, sym adds.reads.form i) in (
      p,
      ap judged_point (text_reads_in text parts s has adds.reads),
      λ points h.
          let is : IsFormed s = formed points s adds.values h.are_points (sym (h.series s) ∙ adds.found) in
          adds_known old new a p adds.values (record { metric = is.metric; tags = is.tags; timed = has.timed })
          (subst (λ (t : Series). values_in old t ≡ Some adds.values) same adds.found)
          (subst (λ (t : Series). AddsValue t adds.values (parts.time, parts.value) old new) same adds.adds)
          points h,
    )

-- a text that was judged a point reads as it
pub taken_is : (r : Result DataPoint PointFault) (p : DataPoint) → Taken p ≡ judged_point r → r ≡ Ok p
taken_is (Ok q) p is = ap (λ (o : DataPoint). Ok o) (sym (taken_same p q is))
  where
    taken_same : (p q : DataPoint) → Taken p ≡ Taken q → p ≡ q
    taken_same p q e = cc
taken_is (Err fault) p is = absurd cc

-- ---- the same by the series as they are held
pub adds_there : (es new : List (Series × PendingSeries)) (old : List SeriesEntry) (a : Seen) (p : DataPoint) → all_values es ≡ old → IsPoint p → AddsAt es (series_of_point p) (dot p) new → AddsPoint (so_far a old) p None (so_far a (all_values new))
adds_there es new old a p same is_point at = subst (λ (o : List SeriesEntry). AddsPoint (so_far a o) p None (so_far a (all_values new))) same (adds_known (all_values es) (all_values new) a p at.values is_point at.found at.adds)

pub adds_new_here : (es : List (Series × PendingSeries)) (old new : List SeriesEntry) (a b : Seen) (p : DataPoint) → all_values es ≡ old → IsPoint p → values_in (all_values es) (series_of_point p) ≡ None → Notes a (names_of p) None b
    → AddsValue (series_of_point p) [] (dot p) old new → AddsPoint (so_far a old) p None (so_far b new)
adds_new_here es old new a b p same is_point none notes adds = adds_new old new a b p is_point (subst (λ (o : List SeriesEntry). values_in o (series_of_point p) ≡ None) same none) notes adds
