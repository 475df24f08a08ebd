-- Series as lines, by the ids of their tags.
use Rattle.std.specs.Prelude.{◌≡◌, ℕ, ◌<◌, ◌≤◌, List, ◌++◌, length, take, All, AllPairs}
use Rattle.std.specs.List.{flat_map}
use Rattle.std.specs.List.Sorted.{IsPermutation, IsSortedBy}
use Rattle.std.specs.Ordering.{is_lt}
use Rattle.tsd_base.specs.TagList.{tags_cmp}
use Rattle.row_key.specs.declared.widths.Widths.{Widths}
use Rattle.row_key.specs.Key.{IsId, id_bytes, pair_bytes}
use Rattle.cell_model.specs.Readings.{Named}
use Rattle.metric_scan.specs.RowNames.{Names}
use Rattle.metric_scan.specs.RowTags.{ArePairs}
use Rattle.series_meta.specs.declared.meta_answers.Line.{Line}

-- ids of a metric and of 1 to 8 tags, rising by their keys' ids
pub record IsSeries (w : Widths) (metric : ℕ) (pairs : List (ℕ × ℕ)) : Type 0 where
  pub metric_id : IsId w.metric metric
  pub some : 1 ≤ length pairs
  pub most : length pairs ≤ 8
  pub ids : All (λ p. IsId w.tag_key p.0 × IsId w.tag_value p.1) pairs
  pub rising : AllPairs (λ p q. p.0 < q.0) pairs

-- the line can be written: its ids are those of a series, and have names
abbrev pub CanTell : Names → Widths → ℕ → List (ℕ × ℕ) → Type 0
CanTell names w metric pairs = ArePairs names pairs × IsSeries w metric pairs

-- the line tells the series with these ids, and this count
pub record IsLine (names : Names) (w : Widths) (metric : ℕ) (entry : List (ℕ × ℕ) × ℕ) (line : Line) : Type 0 where
  pub tags : Named names entry.0 line.tags
  pub series : line.tsuid ≡ id_bytes w.metric metric ++ flat_map (pair_bytes w) entry.0
  pub count_is : line.count ≡ entry.1

-- these are the first of all, in the order of their tags
pub record AreFirst (limit : ℕ) (all lines : List Line) : Type 0 where
  pub sorted : List Line
  pub permuted : IsPermutation all sorted
  pub in_order : IsSortedBy (λ s t. is_lt (tags_cmp s.tags t.tags)) sorted
  pub lines_are : lines ≡ take limit sorted
