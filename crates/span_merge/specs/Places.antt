-- Series before and behind a place in their order.
use Rattle.std.specs.Prelude.{◌≡◌, ◌≢◌, ℕ, ℤ, List, [], ◌∷◌, ◌++◌, map, reverse, Option, None, Some}
use Rattle.std.specs.declared.cmp.Ordering.TheVariants.{Equal, Greater}
use Rattle.span_merge.specs.Spans.{KeptSpan, pairs_cmp, kept_span}
use Rattle.std.specs.Map.{lookup}
use Rattle.std.specs.BTreeMap.{insert_entry, is_at}
use Rattle.tsd_base.specs.declared.kinds.Down.{Down}
use Rattle.span_merge.specs.KeptPoints.{Keeps, KeepsMore, Takes}
use Rattle.span_merge.specs.declared.kept_points.Kept.{Kept}
use Rattle.span_merge.specs.declared.series.Series.{Series}

-- the series before the place, and then those behind it, which are kept the other way round
abbrev pub spans_of : List Series → List Series → List KeptSpan
spans_of before behind = map kept_span (before ++ reverse behind)

-- the series stands above these ids
abbrev pub IsAbove : List (ℕ × ℕ) → Series → Type 0
IsAbove pairs s = pairs_cmp s.pairs.items pairs ≡ Greater

-- the last one, if any, stands above these ids
abbrev pub LastIsAbove : List (ℕ × ℕ) → List Series → Type 0
LastIsAbove pairs list = (others : List Series) (s : Series) → list ≡ others ++ s ∷ [] → IsAbove pairs s

-- the last one, if any, doesn't stand above these ids
abbrev pub LastIsNotAbove : List (ℕ × ℕ) → List Series → Type 0
LastIsNotAbove pairs list = (others : List Series) (s : Series) → list ≡ others ++ s ∷ [] → pairs_cmp s.pairs.items pairs ≢ Greater

-- the last one, if any, has these ids
abbrev pub LastHas : List (ℕ × ℕ) → List Series → Type 0
LastHas pairs list = (others : List Series) (s : Series) → list ≡ others ++ s ∷ [] → pairs_cmp s.pairs.items pairs ≡ Equal

-- the last one, if any, has other ids
abbrev pub LastHasNot : List (ℕ × ℕ) → List Series → Type 0
LastHasNot pairs list = (others : List Series) (s : Series) → list ≡ others ++ s ∷ [] → pairs_cmp s.pairs.items pairs ≢ Equal

-- the last one of a list is now behind those of another
pub record MovesLast (from rest to longer : List Series) : Type 0 where
  pub series : Series
  pub was_last : from ≡ rest ++ series ∷ []
  pub is_last : longer ≡ to ++ series ∷ []

-- what is kept of the series with these ids
abbrev pub kept_at : List KeptSpan → List (ℕ × ℕ) → Option Kept
kept_at kept pairs = lookup (is_at (pairs_cmp pairs)) kept

-- this is kept of a series' points, and then of these; of a new series, of these
abbrev pub Grows : Option Down → Option Kept → List (ℕ × ℤ) → Kept → Type 0
Grows how None dots new = Keeps how new dots
Grows how (Some old) dots new = KeepsMore old new dots

-- the points went to the series with these ids
pub record HasPut (how : Option Down) (old : List KeptSpan) (pairs : List (ℕ × ℕ)) (dots : List (ℕ × ℤ)) (new : List KeptSpan) : Type 0 where
  pub kept : Kept
  pub grows : Grows how (kept_at old pairs) dots kept
  pub put : new ≡ insert_entry pairs_cmp old pairs kept

-- so may they
abbrev pub MayPut : List KeptSpan → List (ℕ × ℕ) → List (ℕ × ℤ) → Type 0
MayPut old pairs dots = (kept : Kept) → kept_at old pairs ≡ Some kept → Takes kept dots
