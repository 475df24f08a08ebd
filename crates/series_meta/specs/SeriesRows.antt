-- The rows of a series, by ids that were seen of its names.
use Rattle.std.specs.Prelude.{◌≡◌, ℕ, List, ◌∷◌, ◌++◌}
use Rattle.std.specs.List.{flat_map}
use Rattle.tsd_base.specs.declared.kinds.Kind.TheVariants.{Metric}
use Rattle.tsd_base.specs.TagList.{Pair, IsTags}
use Rattle.row_key.specs.declared.widths.Widths.{Widths}
use Rattle.row_key.specs.declared.keys.RowKey.{RowKey}
use Rattle.row_key.specs.Key.{IsKey, id_bytes, pair_bytes}
use Rattle.cell_model.specs.IdRows.{NameOf}
use Rattle.cell_model.specs.Layout.{base_time, tag_names}
use Rattle.cell_model.specs.Seen.{Seen}
use Rattle.uid_table.specs.Shown.{HasShown}
use Rattle.uid_table.specs.ShownKeys.{PairsShown}

-- the names of a series, in the order in which they are resolved
abbrev pub series_names : List ℕ → List Pair → List NameOf
series_names metric tags = (Metric, metric) ∷ tag_names tags

-- the key is that of the series in the hour of the moment, with ids that were seen
pub record IsShownKey (s : Seen) (metric : List ℕ) (tags : List Pair) (now : ℕ) (key : RowKey) : Type 0 where
  pub is_key : IsKey s.base.widths key
  pub are_tags : IsTags tags
  pub metric_shown : HasShown s Metric metric key.metric
  pub pairs : PairsShown s tags key.pairs.items
  pub hour : key.base ≡ base_time now

-- the identifier of a key's series: the bytes of the key without those of its hour
abbrev pub series_id : Widths → RowKey → List ℕ
series_id w key = id_bytes w.metric key.metric ++ flat_map (pair_bytes w) key.pairs.items
