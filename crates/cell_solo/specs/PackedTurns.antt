-- Steps, packed: heads that tell what each step is and how long its parts are, one block of the parts' bytes, what drops named, and the places of points.
use Rattle.std.specs.Prelude.{◌≡◌, ℕ, ◌+◌, ◌*◌, ◌≤◌, List, [], ◌∷◌, ◌++◌, length, take, drop, sum_by, ℤ, Bool, true, false, Option, Some, None, slice_get, All}
use Rattle.std.specs.Int.{from_be_bytes, cast_signed}
use Rattle.row_hours.specs.declared.hours.TheConstants.{HOUR_MILLIS}
use Rattle.row_key.specs.declared.tables.Table.{Table}
use Rattle.qual_codec.specs.Items.{item_bytes}
use Rattle.qual_codec.specs.CellDots.{width_of}
use Rattle.tsd_base.specs.Points.{DataPoint}
use Rattle.cell_model.specs.declared.row.Row.{Row}
use Rattle.cell_model.specs.declared.events.Step.{Step}
use Rattle.cell_model.specs.declared.events.Step.TheVariants.{Open, Read, NextRow, Bump, Claim, PutMerged, DropCells}
use Rattle.cell_model.specs.Readings.{store_step}
use Rattle.cell_solo.specs.declared.turn_bytes.CellLengths.{CellLengths}
use Rattle.cell_solo.specs.declared.turns.Head.{Head}
use Rattle.cell_solo.specs.declared.turns.Head.TheVariants as head
use Rattle.cell_solo.specs.declared.turns.Dropped.{Dropped}
use Rattle.cell_solo.specs.TurnPlaces.{NamedRow, named_row_of}
use Rattle.cell_solo.specs.Turns.{Turn}

-- whose step it is
abbrev pub caller_of : Head → ℕ
caller_of (head.Open caller) = caller
caller_of (head.Read caller table row) = caller
caller_of (head.NextRow caller table from to) = caller
caller_of (head.Bump caller kind) = caller
caller_of (head.Claim caller table cell) = caller
caller_of (head.PutPoint caller appends fine value place offset) = caller
caller_of (head.PutMerged caller table cell) = caller
caller_of (head.DropCells caller) = caller

-- a row whose bytes begin these
abbrev pub row_in : Table → ℕ → List ℕ → Row
row_in table n bytes = record { table = table; bytes = take n bytes }

-- behind a row the qualifier
abbrev pub qual_in : CellLengths → List ℕ → List ℕ
qual_in cell bytes = take cell.qual (drop cell.row bytes)

-- and behind that the value
abbrev pub value_in : CellLengths → List ℕ → List ℕ
value_in cell bytes = take cell.value (drop cell.qual (drop cell.row bytes))

-- the number that these bytes are in two's complement, the highest first
abbrev pub number_in : List ℕ → ℤ
number_in bytes = cast_signed (width_of (length bytes)) (from_be_bytes (width_of (length bytes)) bytes)

-- a point of the names at a place, at this millisecond of the hour there, with the value that these bytes are
abbrev pub point_at : Bool → ℕ → List ℕ → NamedRow → DataPoint
point_at fine offset bytes place = record { metric = place.metric; tags = place.tags; time = place.hour * HOUR_MILLIS + offset; fine = fine; value = number_in bytes }

-- a put or an append at a place, of the value that these bytes are; its qualifier is one item
abbrev pub put_at : Bool → Bool → ℕ → List ℕ → Option NamedRow → Step
put_at appends fine offset bytes (Some place) = store_step appends (point_at fine offset bytes place) place.row (item_bytes (record { offset = offset; fine = fine; len = length bytes })) bytes
put_at appends fine offset bytes None = Open

-- the step of this head whose parts these are, and whose place, if it has one, is among these
abbrev pub step_in : Head → List ℕ → List Dropped → List NamedRow → Step
step_in (head.Open caller) bytes drops places = Open
step_in (head.Read caller table row) bytes drops places = Read (row_in table row bytes)
step_in (head.NextRow caller table from to) bytes drops places = NextRow table (take from bytes) (take to (drop from bytes))
step_in (head.Bump caller kind) bytes drops places = Bump kind
step_in (head.Claim caller table cell) bytes drops places = Claim (row_in table cell.row bytes) (qual_in cell bytes) (value_in cell bytes)
step_in (head.PutPoint caller appends fine value place offset) bytes drops places = put_at appends fine offset bytes (slice_get places place)
step_in (head.PutMerged caller table cell) bytes drops places = PutMerged (row_in table cell.row bytes) (qual_in cell bytes) (value_in cell bytes)
step_in (head.DropCells caller) bytes (d ∷ drops) places = DropCells d.row d.which
step_in (head.DropCells caller) bytes [] places = Open

abbrev pub cell_size : CellLengths → ℕ
cell_size cell = cell.row + cell.qual + cell.value

-- how many bytes of the block are the step's
abbrev pub size_of : Head → ℕ
size_of (head.Open caller) = 0
size_of (head.Read caller table row) = row
size_of (head.NextRow caller table from to) = from + to
size_of (head.Bump caller kind) = 0
size_of (head.Claim caller table cell) = cell_size cell
size_of (head.PutPoint caller appends fine value place offset) = value
size_of (head.PutMerged caller table cell) = cell_size cell
size_of (head.DropCells caller) = 0

-- how many of the drops
abbrev pub drops_of : Head → ℕ
drops_of (head.DropCells caller) = 1
drops_of _ = 0

-- how many places there are at least
abbrev pub places_of : Head → ℕ
places_of (head.PutPoint caller appends fine value place offset) = place + 1
places_of _ = 0

-- the turns, each of what comes next
abbrev pub unpacked : List Head → List ℕ → List Dropped → List NamedRow → List Turn
unpacked [] bytes drops places = []
unpacked (h ∷ heads) bytes drops places =
    record { caller = caller_of h; step = step_in h (take (size_of h) bytes) (take (drops_of h) drops) places }
    ∷ unpacked heads (drop (size_of h) bytes) (drop (drops_of h) drops) places

-- one of the turns puts or appends a point of the place's names and hour into its row
pub record IsPutAmong (turns : List Turn) (place : NamedRow) : Type 0 where
  pub at : ℕ
  pub caller : ℕ
  pub appends : Bool
  pub point : DataPoint
  pub qual : List ℕ
  pub value : List ℕ
  pub stands : slice_get turns at ≡ Some (record { caller = caller; step = store_step appends point place.row qual value })
  pub named : named_row_of point place.row ≡ place

-- the points that were put or appended into this row have these names and this hour
pub record IsOnlyPut (turns : List Turn) (named : NamedRow) : Type 0 where
  pub each : (p : NamedRow) → IsPutAmong turns p → p.row ≡ named.row → p ≡ named

-- all that stands beside the heads is that of their steps, each place of theirs is there, and each place is one of theirs
pub record Fills (heads : List Head) (bytes : List ℕ) (drops : List Dropped) (places : List NamedRow) : Type 0 where
  pub bytes_fit : sum_by size_of heads ≡ length bytes
  pub drops_fit : sum_by drops_of heads ≡ length drops
  pub places_there : All (λ (h : Head). places_of h ≤ length places) heads
  pub places_put : (k : ℕ) (p : NamedRow) → slice_get places k ≡ Some p → IsPutAmong (unpacked heads bytes drops places) p

-- what callers see of packed turns: the turns, for how many more there is room, and for how many more bytes
pub record TurnList : Type 0 where
  pub list : List Turn
  pub spare : ℕ
  pub room : ℕ
