-- The point rows of cells, in the order in which they are dumped.
use Rattle.std.specs.Prelude.{◌≡◌, ◌≢◌, ℕ, ◌<◌, true, List, [], ◌∷◌, AllPairs, Contains, None, Some}
use Rattle.std.specs.List.{slice_get}
use Rattle.std.specs.List.Sorted.{IsPermutation, IsSorted}
use Rattle.std.specs.Ordering.{nat_cmp, ordering_then}
use Rattle.std.specs.Cmp.Lexicographic.{slice_cmp}
use Rattle.std.specs.BTreeMap.{get}
use Rattle.std.specs.declared.cmp.Ordering.{Ordering}
use Rattle.std.specs.declared.cmp.Ordering.TheVariants.{Less}
use Rattle.tsd_base.specs.declared.kinds.Kind.TheVariants.{Metric, TagKey, TagValue}
use Rattle.row_key.specs.declared.keys.RowKey.{RowKey}
use Rattle.row_key.specs.Key.{IsKey, key_bytes}
use Rattle.row_key.specs.KeyOrder.{pair_cmp}
use Rattle.cell_model.specs.declared.row.ListLine.{ListLine}
use Rattle.cell_model.specs.KindWidths.{Widths}
use Rattle.listing_dump.specs.declared.row_places.RowPlace.{RowPlace}
use Rattle.listing_dump.specs.declared.name_ranks.NameRanks.{NameRanks}
use Rattle.listing_dump.specs.NameRanks.{AreRanks, IsRank}
use Rattle.listing_dump.specs.RowLines.{begins_row, is_points}

-- the ids of a tag have these ranks
pub record IsTagRank (w : Widths) (cells : List ListLine) (p r : ℕ × ℕ) : Type 0 where
  pub key : IsRank w cells TagKey p.0 r.0
  pub value : IsRank w cells TagValue p.1 r.1

-- the ranks of these tags, rising by key
pub record AreTagRanks (w : Widths) (cells : List ListLine) (pairs ranks : List (ℕ × ℕ)) : Type 0 where
  pub rising : AllPairs (λ p q. p.0 < q.0) ranks
  pub each : (p : ℕ × ℕ) → Contains pairs p → (r : ℕ × ℕ) × Contains ranks r × IsTagRank w cells p r
  pub back : (r : ℕ × ℕ) → Contains ranks r → (p : ℕ × ℕ) × Contains pairs p × IsTagRank w cells p r

-- each id of the key has a rank
pub record HasRanks (ranks : NameRanks) (key : RowKey) : Type 0 where
  pub metric : get nat_cmp ranks.metrics key.metric ≢ None
  pub tags : (p : ℕ × ℕ) → Contains key.pairs.items p → (get nat_cmp ranks.tag_keys p.0 ≢ None) × (get nat_cmp ranks.tag_values p.1 ≢ None)

-- the ranks of all kinds
pub record AreAllRanks (w : Widths) (cells : List ListLine) (ranks : NameRanks) : Type 0 where
  pub metrics : AreRanks w cells Metric ranks.metrics
  pub tag_keys : AreRanks w cells TagKey ranks.tag_keys
  pub tag_values : AreRanks w cells TagValue ranks.tag_values

-- a point row that begins on its line
pub record IsRowPlace (w : Widths) (cells : List ListLine) (r : RowPlace) : Type 0 where
  pub line : ListLine
  pub there : slice_get cells r.line ≡ Some line
  pub begins : begins_row cells r.line line ≡ true
  pub key : RowKey
  pub is_key : IsKey w key
  pub row_is : line.row ≡ key_bytes w key
  pub base_is : r.base ≡ key.base
  pub metric : IsRank w cells Metric key.metric r.metric
  pub tags : AreTagRanks w cells key.pairs.items r.tags.items

-- by metric, by tags, by hour, and by line
abbrev pub row_place_cmp : RowPlace → RowPlace → Ordering
row_place_cmp a b = ordering_then (nat_cmp a.metric b.metric) (ordering_then (slice_cmp pair_cmp a.tags.items b.tags.items) (ordering_then (nat_cmp a.base b.base) (nat_cmp a.line b.line)))

-- each point row that begins on one of the first so many lines, in order of lines
pub record AreRowsTo (w : Widths) (cells : List ListLine) (rows : List RowPlace) (end : ℕ) : Type 0 where
  pub each : (r : RowPlace) → Contains rows r → IsRowPlace w cells r × (r.line < end)
  pub all : (at : ℕ) (l : ListLine) → slice_get cells at ≡ Some l → at < end → begins_row cells at l ≡ true → (r : RowPlace) × Contains rows r × (r.line ≡ at)
  pub rising : AllPairs (λ a b. a.line < b.line) rows

-- each point row of the cells, in order
pub record AreRowPlaces (w : Widths) (cells : List ListLine) (rows : List RowPlace) : Type 0 where
  pub each : (r : RowPlace) → Contains rows r → IsRowPlace w cells r
  pub all : (at : ℕ) (l : ListLine) → slice_get cells at ≡ Some l → begins_row cells at l ≡ true → (r : RowPlace) × Contains rows r × (r.line ≡ at)
  pub rising : AllPairs (λ a b. row_place_cmp a b ≡ Less) rows

-- each tag's ids have ranks
abbrev pub TagsHaveRanks : NameRanks → List (ℕ × ℕ) → Type 0
TagsHaveRanks ranks pairs = (p : ℕ × ℕ) → Contains pairs p → (get nat_cmp ranks.tag_keys p.0 ≢ None) × (get nat_cmp ranks.tag_values p.1 ≢ None)

-- the ids of a tag have these ranks by the maps
abbrev pub HasTagRank : NameRanks → ℕ × ℕ → ℕ × ℕ → Type 0
HasTagRank ranks p r = (get nat_cmp ranks.tag_keys p.0 ≡ Some r.0) × (get nat_cmp ranks.tag_values p.1 ≡ Some r.1)

-- the ranks of tags, one behind the other
abbrev pub AreRanked : NameRanks → List (ℕ × ℕ) → List (ℕ × ℕ) → Type 0
AreRanked ranks [] rs = rs ≡ []
AreRanked ranks (p ∷ ps) rs = (r : ℕ × ℕ) × (rest : List (ℕ × ℕ)) × (rs ≡ r ∷ rest) × HasTagRank ranks p r × AreRanked ranks ps rest

-- the row of a key that begins on a line, by the maps
pub record IsRanked (ranks : NameRanks) (key : RowKey) (line : ℕ) (r : RowPlace) : Type 0 where
  pub tags : List (ℕ × ℕ)
  pub ranked : AreRanked ranks key.pairs.items tags
  pub moved : IsPermutation tags r.tags.items
  pub sorted : IsSorted pair_cmp r.tags.items
  pub metric : get nat_cmp ranks.metrics key.metric ≡ Some r.metric
  pub base : r.base ≡ key.base
  pub line_is : r.line ≡ line

-- the row is the key's
abbrev pub IsKeyOf : Widths → List ℕ → RowKey → Type 0
IsKeyOf w row key = IsKey w key × (row ≡ key_bytes w key)

-- the row has a key, each id of which has a rank
abbrev pub HasRankedKey : Widths → NameRanks → List ℕ → Type 0
HasRankedKey w ranks row = (key : RowKey) × IsKeyOf w row key × HasRanks ranks key

-- so has each point row
abbrev pub HaveRankedKeys : Widths → List ListLine → NameRanks → Type 0
HaveRankedKeys w cells ranks = (at : ℕ) (l : ListLine) → slice_get cells at ≡ Some l → is_points l.table ≡ true → HasRankedKey w ranks l.row
