-- What facts show of the ids of a point of one tag.
use Rattle.std.specs.Prelude.{◌≡◌, ℕ, List, [], ◌∷◌}
use Rattle.tsd_base.specs.declared.kinds.Kind.{Kind}
use Rattle.tsd_base.specs.declared.kinds.Kind.TheVariants.{Metric, TagKey, TagValue}
use Rattle.tsd_base.specs.TagList.{Pair}
use Rattle.tsd_base.specs.Points.{DataPoint}
use Rattle.row_key.specs.declared.keys.RowKey.{RowKey}
use Rattle.cell_model.specs.KindWidths.{Widths, IsKindId, kind_bytes}
use Rattle.cell_model.specs.Machine.{kind_qual}
use Rattle.cell_model.specs.IdRows.{name_row}
use Rattle.cell_model.specs.Layout.{IsPoint, base_time}
use Rattle.test_rows.specs.declared.fact.Fact.{Fact}
use Rattle.test_rows.specs.Facts.{IsShown}

-- the value is the bytes of an id of the kind
pub record IsBytesOf (w : Widths) (kind : Kind) (value : List ℕ) (id : ℕ) : Type 0 where
  pub is_id : IsKindId w kind id
  pub bytes : kind_bytes w kind id ≡ value

-- the cell of the name was shown with this id
pub record ShowsId (w : Widths) (facts : List Fact) (kind : Kind) (name : List ℕ) (id : ℕ) : Type 0 where
  pub is_id : IsKindId w kind id
  pub shown : IsShown facts (name_row name) (kind_qual kind) (kind_bytes w kind id)

abbrev pub ShowsPair : Widths → List Fact → Pair → ℕ × ℕ → Type 0
ShowsPair w facts tag ids = ShowsId w facts TagKey tag.0 ids.0 × ShowsId w facts TagValue tag.1 ids.1

-- there is one tag, and the pairs are its ids
pub record ShowsTags (w : Widths) (facts : List Fact) (tags : List Pair) (pairs : List (ℕ × ℕ)) : Type 0 where
  pub tag : Pair
  pub ids : ℕ × ℕ
  pub tags_are : tags ≡ tag ∷ []
  pub pairs_are : pairs ≡ ids ∷ []
  pub shows : ShowsPair w facts tag ids

-- the key is that of the point
pub record ShowsKey (w : Widths) (facts : List Fact) (p : DataPoint) (key : RowKey) : Type 0 where
  pub is_point : IsPoint p
  pub metric : ShowsId w facts Metric p.metric key.metric
  pub base : key.base ≡ base_time p.time
  pub tags : ShowsTags w facts p.tags key.pairs.items
