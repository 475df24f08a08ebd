-- The readings of series under their names.
use Rattle.std.proofs.Common.{◌≡◌, ◌⊎◌, inl, inr, ℕ, List, [], ◌∷◌, ◌++◌, refl, sym, ap, subst, ◌∙◌}
use Rattle.std.specs.Prelude.{ℤ, true, Contains, map}
use Rattle.std.specs.List.{flat_map}
use Rattle.std.proofs.lemmas.List.{map-append}
use Rattle.std.proofs.lemmas.List.Elements.{Contains-append_left, Contains-append_right, Contains-append_cases}
use Rattle.tsd_base.specs.TagList.{Pair}
use Rattle.tsd_base.specs.Points.{DataPoint}
use Rattle.cell_model.specs.Readings.{Reading}
use Rattle.series_groups.specs.NamedSeries.{Series}
use Rattle.query_run.specs.AskedQueries.{as_point}
use Rattle.series_groups.specs.NamedSeries.{points_in}
use Rattle.query_run.proofs.Lower as lower

abbrev pub reading_at : List ℕ → List Pair → ℕ × ℤ → Reading
reading_at metric tags d = record { metric = metric; tags = tags; time = d.0; value = d.1 }

abbrev pub readings_of : List ℕ → Series → List Reading
readings_of metric s = map (reading_at metric s.tags) s.dots

abbrev pub readings_in : List ℕ → List Series → List Reading
readings_in metric series = flat_map (readings_of metric) series

points_of_one : (metric : List ℕ) (tags : List Pair) (dots : List (ℕ × ℤ)) → map as_point (map (reading_at metric tags) dots) ≡ map (λ d. record { metric = metric; tags = tags; time = d.0; fine = true; value = d.1 }) dots
points_of_one metric tags [] = refl
points_of_one metric tags (d ∷ dots) = ap (λ (l : List DataPoint). record { metric = metric; tags = tags; time = d.0; fine = true; value = d.1 } ∷ l) (points_of_one metric tags dots)

pub as_points : (metric : List ℕ) (series : List Series) → map as_point (readings_in metric series) ≡ points_in metric series
as_points metric [] = refl
as_points metric (s ∷ series) = map-append as_point (readings_of metric s) (readings_in metric series) ∙ (λ i. points_of_one metric s.tags s.dots i ++ as_points metric series i)

-- a reading is a point of one of the series
pub record ReadingOf (metric : List ℕ) (series : List Series) (r : Reading) : Type 0 where
  pub series_of : Series
  pub among : Contains series series_of
  pub dot : ℕ × ℤ
  pub there : Contains series_of.dots dot
  pub is : r ≡ reading_at metric series_of.tags dot

pub reading_of : (metric : List ℕ) (series : List Series) (r : Reading) → Contains (readings_in metric series) r → ReadingOf metric series r
reading_of metric [] r c = absurd (lower.not_in r c)
reading_of metric (s ∷ series) r c =
    elim (Contains-append_cases (readings_of metric s) (readings_in metric series) r c) [
      | inl l ↦ (let w = lower.map_in (reading_at metric s.tags) s.dots r l in record { series_of = s; among = lower.here s series; dot = w.0; there = w.1; is = sym w.2 })
      | inr m ↦ (let w = reading_of metric series r m in record { series_of = w.series_of; among = lower.there s w.series_of series w.among; dot = w.dot; there = w.there; is = w.is })
    ]

pub of_reading : (metric : List ℕ) (series : List Series) (s : Series) (d : ℕ × ℤ) → Contains series s → Contains s.dots d → Contains (readings_in metric series) (reading_at metric s.tags d)
of_reading metric [] s d c i = absurd (lower.not_in s c)
of_reading metric (t ∷ series) s d c i = at (lower.split t s series c) (of_reading metric series s d)
  where
    at : (t ≡ s) ⊎ Contains series s → (Contains series s → Contains s.dots d → Contains (readings_in metric series) (reading_at metric s.tags d)) → Contains (readings_in metric (t ∷ series)) (reading_at metric s.tags d)
    at (inl same) go =
        Contains-append_left (readings_of metric t) (readings_in metric series) (reading_at metric s.tags d)
        (subst (λ (x : Series). Contains (readings_of metric x) (reading_at metric s.tags d)) (sym same) (lower.in_map (reading_at metric s.tags) s.dots d i))
    at (inr later) go = Contains-append_right (readings_of metric t) (readings_in metric series) (reading_at metric s.tags d) (go later i)
