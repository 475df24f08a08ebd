-- Readings: the points of a store or of lines, without their forms, and the series that they make.
use Rattle.std.specs.Prelude.{ℕ, Bool, ◌&&◌, not, nat_eq, List, [], ◌∷◌, map, filter, ℤ, if◌then◌else◌}
use Rattle.std.specs.List.{list_any}
use Rattle.std.specs.FinMap.{from_entries, keys}
use Rattle.tsd_base.specs.TagList.{tags_cmp, is_same_tags}
use Rattle.tsd_base.specs.Tags.{Pair, is_same}
use Rattle.tsd_base.specs.Points.{DataPoint}

-- of one series, at one time and in one form
abbrev pub is_same_place : DataPoint → DataPoint → Bool
is_same_place p q = is_same p.metric q.metric && (is_same_tags p.tags q.tags && (nat_eq p.time q.time && is_same_form p.fine q.fine))
  where
    is_same_form : Bool → Bool → Bool
    is_same_form a b = if a then b else not b

-- the points without those for which a later one has the same series, time and form
abbrev pub last_points : List DataPoint → List DataPoint
last_points [] = []
last_points (p ∷ ps) = if list_any (is_same_place p) ps then last_points ps else p ∷ last_points ps

-- the sets of tags that points have, each once and in order: one for each series of a metric
abbrev pub series_of : List DataPoint → List (List Pair)
series_of points = keys (from_entries {R = tags_cmp} (map (λ p. (p.tags, p.time)) points))

-- the times and values of the points with these tags, in any order
abbrev pub dots_of : List DataPoint → List Pair → List (ℕ × ℤ)
dots_of points tags = map (λ p. (p.time, p.value)) (filter (λ p. is_same_tags p.tags tags) points)
