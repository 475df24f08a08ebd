-- How many bytes the ids of each kind have, and the greatest of them.
use Rattle.std.specs.Prelude.{ℕ, List}
use Rattle.tsd_base.specs.declared.kinds.Kind.{Kind}
use Rattle.tsd_base.specs.declared.kinds.Kind.TheVariants.{Metric, TagKey, TagValue}
pub use Rattle.row_key.specs.declared.widths.Widths.{Widths}
pub use Rattle.row_key.specs.IdWidths.{IsId, IsWidth, id_bytes, most_ids}

-- the width of a kind
abbrev pub width_of : Widths → Kind → ℕ
width_of w Metric = w.metric
width_of w TagKey = w.tag_key
width_of w TagValue = w.tag_value

-- the greatest id of a kind
abbrev pub greatest : Widths → Kind → ℕ
greatest w kind = most_ids (width_of w kind)

-- the bytes of an id of a kind
abbrev pub kind_bytes : Widths → Kind → ℕ → List ℕ
kind_bytes w kind id = id_bytes (width_of w kind) id

-- an id of a kind
abbrev pub IsKindId : Widths → Kind → ℕ → Type 0
IsKindId w kind id = IsId (width_of w kind) id
