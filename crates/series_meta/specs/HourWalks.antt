-- Reading the rows of a series hour by hour, the latest first, up to one with a time in reach.
use Rattle.std.specs.Prelude.{◌≡◌, ℕ, ℤ, ◌+◌, ◌*◌, ◌%◌, ◌<◌, ◌≤◌, List, [], ◌∷◌, ◌++◌, length, Contains, Option, None, Some, Result, Ok, Err}
use Rattle.row_hours.specs.declared.hours.TheConstants.{HOUR}
use Rattle.row_key.specs.declared.widths.Widths.{Widths}
use Rattle.row_key.specs.declared.keys.RowKey.{RowKey}
use Rattle.row_key.specs.Key.{IsKey, key_bytes}
use Rattle.qual_codec.specs.declared.cells.Cell.{Cell}
use Rattle.qual_codec.specs.declared.cells.Dot.{Dot}
use Rattle.qual_codec.specs.declared.cells.MergeFault.{MergeFault}
use Rattle.qual_codec.specs.declared.cells.MergeFault.TheVariants as merge
use Rattle.qual_codec.specs.Merge.{AreDots, values_at, first_conflict}
use Rattle.cell_model.specs.declared.events.Placed.{Placed}
use Rattle.cell_model.specs.declared.events.Step.TheVariants.{Read}
use Rattle.cell_model.specs.declared.events.Reply.TheVariants.{Shown}
use Rattle.cell_model.specs.Readings.{point_row}
use Rattle.cell_model.specs.Seen.{Seen}
use Rattle.cell_model.specs.Deeds.{Made, Did}
use Rattle.uid_table.specs.PlacedPoints.{key_at}
use Rattle.metric_scan.specs.RowNames.{AreReads}
use Rattle.metric_scan.specs.declared.fault.AskFault.{AskFault}
use Rattle.metric_scan.specs.declared.fault.AskFault.TheVariants as ask

-- the entries are reads, and at most so many
abbrev pub AreFewReads : ℕ → List Placed → Type 0
AreFewReads most own = AreReads own × (length own ≤ most)

-- ---- the latest data points of a row

-- of the offsets up to this one that the data points have, it is the latest
pub record IsLatest (dots : List Dot) (most offset : ℕ) : Type 0 where
  pub dot : Dot
  pub among : Contains dots dot
  pub offset_is : dot.item.offset ≡ offset
  pub up_to : offset ≤ most
  pub latest : (d : Dot) → Contains dots d → d.item.offset ≤ most → d.item.offset ≤ offset

abbrev pub AreAbove : List Dot → ℕ → Type 0
AreAbove dots most = (d : Dot) → Contains dots d → most < d.item.offset

abbrev pub GivesLatest : List Dot → ℕ → Option ℕ → Type 0
GivesLatest dots most None = AreAbove dots most
GivesLatest dots most (Some offset) = IsLatest dots most offset

-- with one more data point of this offset it is the latest
abbrev pub GivesLater : Option ℕ → ℕ → ℕ → Option ℕ → Type 0
GivesLater latest offset most now = (dots : List Dot) (d : Dot) → d.item.offset ≡ offset → GivesLatest dots most latest → GivesLatest (dots ++ d ∷ []) most now

-- the data point of the latest offset, which has one value; or two values there
abbrev pub GivesDot : List Cell → ℕ → Result (Option Dot) MergeFault → Type 0
GivesDot cells most (Ok None) = (dots : List Dot) × AreDots cells dots × AreAbove dots most
GivesDot cells most (Ok (Some d)) = (dots : List Dot) × AreDots cells dots × IsLatest dots most d.item.offset × Contains dots d × (first_conflict (values_at d.item.offset dots) ≡ None)
GivesDot cells most (Err (merge.Conflict offset a b)) = (dots : List Dot) × AreDots cells dots × IsLatest dots most offset × (first_conflict (values_at offset dots) ≡ Some (a, b))
GivesDot cells most (Err merge.OutOfMemory) = Unit {0}

-- ---- one row

-- the data points are all later than the moment; their hour begins at the second `base`
abbrev pub AreLater : List Dot → ℕ → ℕ → Type 0
AreLater dots base now = (d : Dot) → Contains dots d → now < base * 1000 + d.item.offset

-- of the times of data points up to the moment this is the latest, and these are their values then
pub record LatestAt (dots : List Dot) (base now time : ℕ) (values : List ℤ) : Type 0 where
  pub offset : ℕ
  pub time_is : time ≡ base * 1000 + offset
  pub up_to : time ≤ now
  pub latest : (d : Dot) → Contains dots d → base * 1000 + d.item.offset ≤ now → d.item.offset ≤ offset
  pub values_are : values ≡ values_at offset dots

-- the latest point of the data points, which has one value; or two values at its time
abbrev pub PointOf : List Dot → ℕ → ℕ → Result (Option (ℕ × ℤ)) AskFault → Type 0
PointOf dots base now (Ok None) = AreLater dots base now
PointOf dots base now (Ok (Some point)) = (values : List ℤ) × LatestAt dots base now point.0 values × (first_conflict values ≡ None) × Contains values point.1
PointOf dots base now (Err (ask.Duplicate time a b)) = (values : List ℤ) × LatestAt dots base now time values × (first_conflict values ≡ Some (a, b))
PointOf dots base now (Err fault) = ⊥

-- the point of a row's data point, or the fault of its cells; the hour begins at this millisecond
abbrev pub row_point : ℕ → Option Dot → Option (ℕ × ℤ)
row_point begin None = None
row_point begin (Some d) = Some (begin + d.item.offset, d.value)

abbrev pub row_fault : ℕ → MergeFault → AskFault
row_fault begin (merge.Conflict offset a b) = ask.Duplicate (begin + offset) a b
row_fault begin merge.OutOfMemory = ask.OutOfMemory

-- the same of the data points of cells; want of memory may always be told
abbrev pub GivesPoint : List Cell → ℕ → ℕ → Result (Option (ℕ × ℤ)) AskFault → Type 0
GivesPoint cells base now (Err ask.OutOfMemory) = Unit {0}
GivesPoint cells base now result = (dots : List Dot) × AreDots cells dots × PointOf dots base now result

-- the entry read the row of the key, and these are the data points that it showed
pub record ReadsRow (w : Widths) (key : RowKey) (dots : List Dot) (p : Placed) : Type 0 where
  pub cells : List Cell
  pub did : Did p (Read (point_row (key_bytes w key))) (Shown cells)
  pub are_dots : AreDots cells dots

-- one entry read the row, and the answer is of what it showed; want of memory and a stop may come before it
abbrev pub RowSays : Widths → RowKey → ℕ → Result (Option (ℕ × ℤ)) AskFault → List Placed → Type 0
RowSays w key now (Err ask.OutOfMemory) own = AreFewReads 1 own
RowSays w key now (Err ask.Stopped) own = AreFewReads 1 own
RowSays w key now result own = (p : Placed) × (own ≡ p ∷ []) × ((dots : List Dot) × ReadsRow w key dots p × PointOf dots key.base now result)

-- ---- hour by hour

-- one of the entries read the row of the series in the hour that begins at this second, and showed no time up to the moment
abbrev pub HasPassed : Widths → RowKey → ℕ → List Placed → ℕ → Type 0
HasPassed w key now own base = (p : Placed) × Contains own p × ((dots : List Dot) × ReadsRow w (key_at key base) dots p × AreLater dots base now)

-- so it is of each hour above this one, up to the key's
abbrev pub HavePassed : Widths → RowKey → ℕ → List Placed → ℕ → Type 0
HavePassed w key now own low = (base : ℕ) → base % HOUR ≡ 0 → low < base → base ≤ key.base → HasPassed w key now own base

-- the last entry read the row of the series in an hour, at most so many before the key's, and the hours above it were passed
pub record WalkedTo (w : Widths) (key : RowKey) (now back : ℕ) (own : List Placed) (result : Result (Option (ℕ × ℤ)) AskFault) (at : RowKey) : Type 0 where
  pub earlier : List Placed
  pub last : Placed
  pub own_is : own ≡ earlier ++ last ∷ []
  pub at_is : at ≡ key_at key at.base
  pub is_key : IsKey w at
  pub up_to : at.base ≤ key.base
  pub from_on : key.base ≤ at.base + back * HOUR
  pub passed : HavePassed w key now own at.base
  pub dots : List Dot
  pub reads : ReadsRow w at dots last
  pub point : PointOf dots at.base now result

-- all hours were passed
pub record WalkedAll (w : Widths) (key : RowKey) (now back : ℕ) (own : List Placed) (at : RowKey) : Type 0 where
  pub at_is : at ≡ key_at key at.base
  pub passed : (base : ℕ) → base % HOUR ≡ 0 → base ≤ key.base → key.base ≤ base + back * HOUR → HasPassed w key now own base

abbrev pub WalkIs : Widths → RowKey → ℕ → ℕ → List Placed → Result (Option (ℕ × ℤ)) AskFault → RowKey → Type 0
WalkIs w key now back own (Ok None) at = WalkedAll w key now back own at
WalkIs w key now back own (Ok (Some point)) at = WalkedTo w key now back own (Ok (Some point)) at
WalkIs w key now back own (Err (ask.Duplicate time a b)) at = WalkedTo w key now back own (Err (ask.Duplicate time a b)) at
WalkIs w key now back own (Err ask.OutOfMemory) at = Unit {0}
WalkIs w key now back own (Err ask.Stopped) at = Unit {0}
WalkIs w key now back own (Err fault) at = ⊥

-- the entries are reads, at most one for each hour
pub record WalkSays (key : RowKey) (now back : ℕ) (old : Seen) (result : Result (Option (ℕ × ℤ)) AskFault) (new : Seen) (at : RowKey) : Type 0 where
  pub own : List Placed
  pub made : Made old own new
  pub few : AreFewReads (back + 1) own
  pub is : WalkIs old.base.widths key now back own result at
