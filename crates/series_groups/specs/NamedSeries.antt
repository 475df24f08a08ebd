-- The series of a metric, and their points.
use Rattle.std.specs.Prelude.{◌≡◌, ℕ, ◌≤◌, ◌<◌, ◌^◌, List, length, map, All, AllPairs, ℤ, true}
use Rattle.std.specs.List.{flat_map}
use Rattle.std.specs.declared.cmp.Ordering.TheVariants.{Less}
use Rattle.tsd_base.specs.TagList.{Pair, tags_cmp}
use Rattle.tsd_base.specs.Points.{DataPoint}

-- a series by its tags, with its points
pub record Series : Type 0 where
  pub tags : List Pair
  pub dots : List (ℕ × ℤ)

-- the points of one series, in milliseconds
abbrev pub points_with : List ℕ → List Pair → List (ℕ × ℤ) → List DataPoint
points_with metric tags dots = map (λ d. record { metric = metric; tags = tags; time = d.0; fine = true; value = d.1 }) dots

-- the points of all series
abbrev pub points_in : List ℕ → List Series → List DataPoint
points_in metric series = flat_map (λ s. points_with metric s.tags s.dots) series

-- the series rise by their tags
abbrev pub RiseByTags : List Series → Type 0
RiseByTags series = AllPairs (λ s t. tags_cmp s.tags t.tags ≡ Less) series

-- each of them has a point
abbrev pub HavePoints : List Series → Type 0
HavePoints series = All (λ s. 1 ≤ length s.dots) series

-- the times of points are below 2^43 milliseconds
abbrev pub AreEarly : List (ℕ × ℤ) → Type 0
AreEarly dots = All (λ d. d.0 < 2 ^ 43) dots
