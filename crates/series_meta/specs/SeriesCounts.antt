-- How many times are counted for series, by the ids of their tags.
use Rattle.std.specs.Prelude.{◌≡◌, ◌⊎◌, ℕ, ◌+◌, ◌≤◌, List, Some, unwrap_or, if◌then◌else◌}
use Rattle.std.specs.BTreeMap.{BTreeMap, get}
use Rattle.std.specs.Ordering.{eq_by_cmp}
use Rattle.row_key.specs.declared.keys.RowKey.{RowKey}
use Rattle.qual_codec.specs.declared.cells.Cell.{Cell}
use Rattle.span_merge.specs.Spans.{pairs_cmp}
use Rattle.series_meta.specs.RowCounts.{CountsOffsets}
use Rattle.series_meta.specs.declared.series_counts.SeriesCounts.{SeriesCounts}

-- so many times more are counted for the series with these ids, and nothing else changes
abbrev pub AddsCount : BTreeMap (List (ℕ × ℕ)) ℕ → List (ℕ × ℕ) → ℕ → BTreeMap (List (ℕ × ℕ)) ℕ → Type 0
AddsCount old pairs count new = (q : List (ℕ × ℕ)) → get pairs_cmp new q ≡ (if eq_by_cmp pairs_cmp pairs q then Some (unwrap_or (get pairs_cmp old q) 0 + count) else get pairs_cmp old q)

-- so many times of a row are counted for its series, where there are any
abbrev pub CountsMore : SeriesCounts → RowKey → ℕ → SeriesCounts → Type 0
CountsMore old key count new = ((count ≡ 0) × (new ≡ old)) ⊎ ((1 ≤ count) × (new.metric ≡ key.metric) × AddsCount old.counts key.pairs.items count new.counts)

-- the times of the row with this key and these cells are counted
pub record CountsRow (old : SeriesCounts) (key : RowKey) (cells : List Cell) (new : SeriesCounts) : Type 0 where
  pub count : ℕ
  pub counts : CountsOffsets cells count
  pub more : CountsMore old key count new
