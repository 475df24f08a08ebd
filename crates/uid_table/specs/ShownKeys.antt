-- What a caller has seen of the names of a point.
use Rattle.std.specs.Prelude.{◌≡◌, ℕ, ◌<◌, List, length, Contains, AllPairs}
use Rattle.tsd_base.specs.declared.kinds.Kind.{Kind}
use Rattle.tsd_base.specs.declared.kinds.Kind.TheVariants.{Metric, TagKey, TagValue}
use Rattle.tsd_base.specs.TagList.{Pair}
use Rattle.tsd_base.specs.Points.{DataPoint}
use Rattle.row_key.specs.declared.keys.RowKey.{RowKey}
use Rattle.row_key.specs.Key.{IsKey}
use Rattle.cell_model.specs.Layout.{IsPoint, base_time}
use Rattle.cell_model.specs.Seen.{Seen}
use Rattle.uid_table.specs.Shown.{HasShown}

-- an id of each of the names was seen
abbrev pub AllShown : Seen → List (Kind × List ℕ) → Type 0
AllShown s names = (kind : Kind) (name : List ℕ) → Contains names (kind, name) → (id : ℕ) × HasShown s kind name id

-- the ids of a tag were seen
abbrev pub IdsShown : Seen → Pair → ℕ × ℕ → Type 0
IdsShown s t i = HasShown s TagKey t.0 i.0 × HasShown s TagValue t.1 i.1

-- the pairs rise by their first ids
abbrev pub Rising : List (ℕ × ℕ) → Type 0
Rising pairs = AllPairs (λ p q. p.0 < q.0) pairs

-- the pairs are the ids of the tags, rising by the first
pub record PairsShown (s : Seen) (tags : List Pair) (pairs : List (ℕ × ℕ)) : Type 0 where
  pub rising : Rising pairs
  pub count : length pairs ≡ length tags
  pub each_tag : (t : Pair) → Contains tags t → (i : ℕ × ℕ) × Contains pairs i × IdsShown s t i
  pub each_pair : (i : ℕ × ℕ) → Contains pairs i → (t : Pair) × Contains tags t × IdsShown s t i

-- the key is that of the point, with ids that were seen
pub record KeyShown (s : Seen) (p : DataPoint) (key : RowKey) : Type 0 where
  pub is_point : IsPoint p
  pub is_key : IsKey s.base.widths key
  pub metric : HasShown s Metric p.metric key.metric
  pub base : key.base ≡ base_time p.time
  pub pairs : PairsShown s p.tags key.pairs.items
