-- Places: the names of points with rows behind them, in one block of bytes, and their hours.
use Rattle.std.specs.Prelude.{◌≡◌, ◌⊎◌, ℕ, ◌+◌, ◌/◌, ◌≤◌, List, [], ◌∷◌, ◌++◌, length, take, drop, map, All, Some, slice_get}
use Rattle.row_hours.specs.declared.hours.TheConstants.{HOUR_MILLIS}
use Rattle.tsd_base.specs.TagList.{Pair}
use Rattle.tsd_base.specs.Points.{DataPoint}
use Rattle.cell_model.specs.declared.row.Row.{Row}
use Rattle.cell_solo.specs.declared.turn_places.Place.{Place}
use Rattle.cell_solo.specs.TurnNames.{first_name, behind_name, tags_in}

-- what points at one place share: their names, their hour, counted from 1970, and the row that they are put into
pub record NamedRow : Type 0 where
  pub metric : List ℕ
  pub tags : List Pair
  pub hour : ℕ
  pub row : Row

abbrev pub named_row_of : DataPoint → Row → NamedRow
named_row_of point row = record { metric = point.metric; tags = point.tags; hour = point.time / HOUR_MILLIS; row = row }

-- the bytes of a place's names, and of the row behind them
abbrev pub names_at : List ℕ → Place → List ℕ
names_at bytes place = take place.names (drop place.start bytes)

abbrev pub row_at : List ℕ → Place → List ℕ
row_at bytes place = take place.row (drop (place.start + place.names) bytes)

-- what stands at a place
abbrev pub named_row_at : List ℕ → Place → NamedRow
named_row_at bytes place = record {
  metric = first_name (names_at bytes place);
  tags = tags_in place.tags (behind_name (names_at bytes place));
  hour = place.hour;
  row = record { table = place.table; bytes = row_at bytes place };
}

-- what stands at each place
abbrev pub places_in : List Place → List ℕ → List NamedRow
places_in places bytes = map (named_row_at bytes) places

-- the place's bytes lie in the block
abbrev pub IsWithin : List ℕ → Place → Type 0
IsWithin bytes place = place.start + place.names + place.row ≤ length bytes

abbrev pub AreWithin : List Place → List ℕ → Type 0
AreWithin places bytes = All (IsWithin bytes) places

-- the place of this number is of this row
pub record HasRow (list : List NamedRow) (number : ℕ) (row : Row) : Type 0 where
  pub place : NamedRow
  pub stands : slice_get list number ≡ Some place
  pub row_is : place.row ≡ row

-- a place of this row has these names and this hour
pub record IsOnlyOfRow (list : List NamedRow) (named : NamedRow) : Type 0 where
  pub each : (k : ℕ) (p : NamedRow) → slice_get list k ≡ Some p → p.row ≡ named.row → p ≡ named

-- the list is as it was, or has this place behind it
abbrev pub HasAlso : List NamedRow → NamedRow → List NamedRow → Type 0
HasAlso old named new = (new ≡ old) ⊎ (new ≡ old ++ named ∷ [])

-- what callers see of places: what stands there, for how many more there is room, and for how many more bytes
pub record PlaceList : Type 0 where
  pub list : List NamedRow
  pub spare : ℕ
  pub room : ℕ
