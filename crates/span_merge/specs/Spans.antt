-- The points of series by the ids of their tags.
use Rattle.std.specs.Prelude.{◌≡◌, ℕ, ℤ, List, [], ◌++◌, All, Option, unwrap_or}
use Rattle.std.specs.declared.cmp.Ordering.{Ordering}
use Rattle.std.specs.Cmp.Lexicographic.{slice_cmp}
use Rattle.std.specs.List.{AllZip}
use Rattle.std.specs.List.Sorted.{IsStrictlySortedBy}
use Rattle.std.specs.Map.{keys_of, lookup}
use Rattle.std.specs.BTreeMap.{insert_entry, is_at}
use Rattle.row_key.specs.KeyOrder.{pair_cmp}
use Rattle.tsd_base.specs.declared.kinds.Down.{Down}
use Rattle.tsd_base.specs.Dots.{IsAboveAll}
use Rattle.span_merge.specs.KeptPoints.{Keeps}
use Rattle.span_merge.specs.declared.kept_points.Kept.{Kept}
use Rattle.span_merge.specs.declared.series.Series.{Series}

-- the ids of a series' tags, and its points
abbrev pub Span : Type 0
Span = List (ℕ × ℕ) × List (ℕ × ℤ)

-- the ids of a series' tags, and what is kept of its points
abbrev pub KeptSpan : Type 0
KeptSpan = List (ℕ × ℕ) × Kept

abbrev pub kept_span : Series → KeptSpan
kept_span s = (s.pairs.items, s.kept)

-- the order of series, by their pairs of ids from the first one on
abbrev pub pairs_cmp : List (ℕ × ℕ) → List (ℕ × ℕ) → Ordering
pairs_cmp = slice_cmp pair_cmp

-- the points of the series with these ids, and none where there is no such series
abbrev pub dots_of : List Span → List (ℕ × ℕ) → List (ℕ × ℤ)
dots_of spans pairs = unwrap_or (lookup (is_at (pairs_cmp pairs)) spans) []

-- the series with these ids has these points behind its own; a new one goes to its place in the order
abbrev pub added : List Span → List (ℕ × ℕ) → List (ℕ × ℤ) → List Span
added spans pairs dots = insert_entry pairs_cmp spans pairs (dots_of spans pairs ++ dots)

-- what is kept is of these series, each with its points
abbrev pub KeepsSpans : Option Down → List KeptSpan → List Span → Type 0
KeepsSpans how kept spans = AllZip (λ k s. (k.0 ≡ s.0) × Keeps how k.1 s.1) kept spans

-- these points, which are later than those of the series with these ids, may be added
pub record TakesLater (how : Option Down) (kept : List KeptSpan) (pairs : List (ℕ × ℕ)) (dots : List (ℕ × ℤ)) : Type 0 where
  pub spans : List Span
  pub keeps : KeepsSpans how kept spans
  pub above : All (λ d. IsAboveAll d.0 (dots_of spans pairs)) dots

-- they were added
abbrev pub HasAdded : Option Down → List KeptSpan → List (ℕ × ℕ) → List (ℕ × ℤ) → List KeptSpan → Type 0
HasAdded how old pairs dots new = (spans : List Span) → KeepsSpans how old spans → All (λ d. IsAboveAll d.0 (dots_of spans pairs)) dots → KeepsSpans how new (added spans pairs dots)

-- the series stand in order, each once
abbrev pub AreInOrder : List KeptSpan → Type 0
AreInOrder kept = IsStrictlySortedBy pairs_cmp (keys_of kept)
