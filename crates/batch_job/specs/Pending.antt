-- What was gathered of the points read so far.
use Rattle.std.specs.Prelude.{◌≡◌, ℕ, ℤ, List, [], ◌∷◌, ◌++◌, map, filter, Option, None, Some, Ok, Err}
use Rattle.std.specs.List.{AllByRecursion, flat_map}
use Rattle.tsd_base.specs.declared.kinds.Kind.{Kind}
use Rattle.tsd_base.specs.Points.{DataPoint}
use Rattle.cell_model.specs.Layout.{IsPoint, names_of}
pub use Rattle.batch_job.specs.SeriesValues.{Series, SeriesEntry, is_same_series, series_of_point, values_in}
use Rattle.batch_job.specs.NotedIds.{Names, no_names, noted_all}
use Rattle.batch_job.specs.Storing.{IsNaming}
use Rattle.cell_model.specs.Seen.{Seen}

-- the times and values of a series in one form, in the order in which they came
abbrev pub values_of : List DataPoint → Series → List (ℕ × ℤ)
values_of points series = map (λ p. (p.time, p.value)) (filter (λ p. is_same_series (series_of_point p) series) points)

-- none where there is nothing
abbrev pub unless_empty : List (ℕ × ℤ) → Option (List (ℕ × ℤ))
unless_empty [] = None
unless_empty (x ∷ xs) = Some (x ∷ xs)

-- what was read so far: what its caller has seen of the store, and what was gathered
pub record SoFar : Type 0 where
  pub seen : Seen
  pub gathered : List SeriesEntry

abbrev pub so_far : Seen → List SeriesEntry → SoFar
so_far seen gathered = record { seen = seen; gathered = gathered }

-- The store has given their ids to the names of the points and has no point yet, and each series has its values.
pub record Gathers (points : List DataPoint) (g : SoFar) : Type 0 where
  pub names : Names
  pub noted : noted_all no_names (flat_map names_of points) ≡ Ok names
  pub naming : IsNaming names g.seen
  pub series : (s : Series) → values_in g.gathered s ≡ unless_empty (values_of points s)
  pub are_points : AllByRecursion IsPoint points

-- one more point was read behind others; or for one of its names there is no id, and then what was gathered is as it was
abbrev pub AddsPoint : SoFar → DataPoint → Option Kind → SoFar → Type 0
AddsPoint old p None new = (points : List DataPoint) → (g : Gathers points old) → (more : Gathers (points ++ p ∷ []) new) × (noted_all g.names (names_of p) ≡ Ok more.names)
AddsPoint old p (Some kind) new = ((points : List DataPoint) → (g : Gathers points old) → noted_all g.names (names_of p) ≡ Err kind) × (new.gathered ≡ old.gathered)
