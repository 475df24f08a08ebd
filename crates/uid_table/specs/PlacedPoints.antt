-- A point with the row where it stands.
use Rattle.std.specs.Prelude.{◌≡◌, ℕ, Bool, ℤ}
use Rattle.tsd_base.specs.Points.{data_point}
use Rattle.row_key.specs.declared.widths.Widths.{Widths}
use Rattle.row_key.specs.declared.keys.RowKey.{RowKey}
use Rattle.row_key.specs.Key.{IsKey, key_bytes}
use Rattle.cell_model.specs.declared.row.Row.{Row}
use Rattle.cell_model.specs.Layout.{names_of, base_time}
use Rattle.cell_model.specs.Readings.{point_row}
use Rattle.cell_model.specs.Seen.{Seen, IsPossible}
use Rattle.uid_table.specs.declared.placed_point.PlacedPoint.{PlacedPoint}
use Rattle.uid_table.specs.ShownKeys.{AllShown, KeyShown}

-- it is the row of the key, where ids have these widths
abbrev pub IsRowOf : Widths → RowKey → Row → Type 0
IsRowOf w key row = IsKey w key × (row ≡ point_row (key_bytes w key))

-- it is the row of some key, of this hour, where the ids of metrics have so many bytes
pub record IsSomeRow (width : ℕ) (row : Row) (base : ℕ) : Type 0 where
  pub widths : Widths
  pub key : RowKey
  pub width_is : widths.metric ≡ width
  pub row_of : IsRowOf widths key row
  pub base_is : key.base ≡ base

-- the key of the same series at another hour
abbrev pub key_at : RowKey → ℕ → RowKey
key_at key base = record { metric = key.metric; base = base; pairs = key.pairs }

-- of whichever key the one was the row, the other is the row of that key at this hour
abbrev pub IsMoved : ℕ → Row → ℕ → Row → Type 0
IsMoved width old base new = (w : Widths) (key : RowKey) → w.metric ≡ width → IsRowOf w key old → new ≡ point_row (key_bytes w (key_at key base))

-- the same series at this time with this value, and its row there
pub record IsRefilled (old : PlacedPoint) (time : ℕ) (fine : Bool) (value : ℤ) (new : PlacedPoint) : Type 0 where
  pub point : data_point new.point ≡ record { metric = old.point.metric; tags = old.point.tags; time = time; fine = fine; value = value }
  pub base : new.base ≡ base_time time
  pub row : (w : Widths) (key : RowKey) → w.metric ≡ old.metric_width → IsRowOf w key old.row → key.base ≡ old.base → new.row ≡ point_row (key_bytes w (key_at key new.base))
  pub width : new.metric_width ≡ old.metric_width

-- the row is that of the point, and an id of each of its names was seen
pub record IsPlaced (s : Seen) (p : PlacedPoint) : Type 0 where
  pub key : RowKey
  pub shown : KeyShown s (data_point p.point) key
  pub row : p.row ≡ point_row (key_bytes s.base.widths key)
  pub base : key.base ≡ p.base
  pub width : s.base.widths.metric ≡ p.metric_width
  pub names : AllShown s (names_of (data_point p.point))
  pub possible : IsPossible s
