-- How a point is laid out as a cell, and which names a row has.
use Rattle.std.specs.Prelude.{◌≡◌, ℕ, ◌%◌, List, length, [], ◌∷◌, Contains, Option, Some}
use Rattle.std.specs.List.{flat_map}
use Rattle.tsd_base.specs.declared.kinds.Kind.{Kind}
use Rattle.tsd_base.specs.declared.kinds.Kind.TheVariants.{Metric, TagKey, TagValue}
use Rattle.tsd_base.specs.Alphabet.{IsName}
use Rattle.tsd_base.specs.TagList.{Pair, IsTags}
use Rattle.tsd_base.specs.Moments.{IsTime}
use Rattle.tsd_base.specs.Points.{DataPoint}
use Rattle.row_hours.specs.declared.hours.TheConstants.{HOUR_MILLIS}
use Rattle.row_key.specs.declared.widths.Widths.{Widths}
use Rattle.row_key.specs.declared.keys.RowKey.{RowKey}
pub use Rattle.row_hours.specs.Hours.{base_time}
use Rattle.row_key.specs.Key.{IsKey, key_bytes}
use Rattle.qual_codec.specs.CellDots.{IsDots}
use Rattle.qual_codec.specs.Spelling.{IsShortest, dot_of}

-- plain data that is a point: a name as its metric, 1 to 8 tags of names rising by key, and a time in range, in whole seconds where it isn't fine
pub record IsPoint (p : DataPoint) : Type 0 where
  pub metric : IsName p.metric
  pub tags : IsTags p.tags
  pub timed : IsTime p.time p.fine

-- the names of tags from the left, key before value
abbrev pub tag_names : List Pair → List (Kind × List ℕ)
tag_names tags = flat_map (λ t. (TagKey, t.0) ∷ (TagValue, t.1) ∷ []) tags

-- the names of a point, in the order in which they are resolved
abbrev pub names_of : DataPoint → List (Kind × List ℕ)
names_of p = (Metric, p.metric) ∷ tag_names p.tags

-- the ids of a tag
abbrev pub ids_of_tag : (Kind → List ℕ → ℕ) → Pair → ℕ × ℕ
ids_of_tag ids t = (ids TagKey t.0, ids TagValue t.1)

-- the key of a point's row, with these ids: its metric, its hour, and its tags
pub record HasKey (w : Widths) (ids : Kind → List ℕ → ℕ) (p : DataPoint) (key : RowKey) : Type 0 where
  pub is_key : IsKey w key
  pub metric : key.metric ≡ ids Metric p.metric
  pub base : key.base ≡ base_time p.time
  pub count : length key.pairs.items ≡ length p.tags
  pub each_tag : (t : Pair) → Contains p.tags t → Contains key.pairs.items (ids_of_tag ids t)
  pub each_pair : (i : ℕ × ℕ) → Contains key.pairs.items i → (t : Pair) × Contains p.tags t × (ids_of_tag ids t ≡ i)

-- a point's cell, with these ids in the bytes of their kinds: the row of its key, one item, and the shortest value
pub record IsLayout (w : Widths) (ids : Kind → List ℕ → ℕ) (p : DataPoint) (row qual value : List ℕ) : Type 0 where
  pub key : RowKey
  pub has : HasKey w ids p key
  pub row_is : row ≡ key_bytes w key
  pub dot : IsDots qual value (dot_of (p.time % HOUR_MILLIS) p.fine p.value (length value) ∷ [])
  pub shortest : IsShortest p.value value

-- the row has a key, and each of its ids is that of a name
pub record RowResolved (w : Widths) (ids : Kind → List ℕ → Option ℕ) (row : List ℕ) : Type 0 where
  pub key : RowKey
  pub is_key : IsKey w key
  pub row_is : row ≡ key_bytes w key
  pub name : List ℕ
  pub is_name : IsName name
  pub metric_is : ids Metric name ≡ Some key.metric
  pub each : (i : ℕ × ℕ) → Contains key.pairs.items i → (t : Pair) × IsName t.0 × IsName t.1 × (ids TagKey t.0 ≡ Some i.0) × (ids TagValue t.1 ≡ Some i.1)
