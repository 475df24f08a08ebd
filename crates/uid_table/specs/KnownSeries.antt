-- The series that are known by their texts.
use Rattle.std.specs.Prelude.{◌≡◌, List, All, Option, None, IfSome}
use Rattle.std.specs.Global.{Box}
use Rattle.tsd_base.specs.TextParts.{ReadsSeries}
use Rattle.cell_model.specs.Seen.{Seen}
use Rattle.uid_table.specs.declared.known_series.KnownSeries.{KnownSeries}
use Rattle.uid_table.specs.PlacedPoints.{IsPlaced}

-- the texts read as the series of the point, the row is the point's, and an id of each of its names was seen
pub record IsShownSeries (s : Seen) (k : KnownSeries) : Type 0 where
  pub reads : ReadsSeries k.metric k.tags k.placed.point.metric k.placed.point.tags
  pub placed : IsPlaced s k.placed

-- where there is a series, it is one of these
abbrev pub IsShownSlot : Seen → Option (Box KnownSeries) → Type 0
IsShownSlot s slot = IfSome slot (λ b. IsShownSeries s b.value)

-- so it is of each series that is kept
abbrev pub KeepsSeries : Seen → List (Option (Box KnownSeries)) → Type 0
KeepsSeries s slots = All (IsShownSlot s) slots

-- no series is kept
abbrev pub KeepsNone : List (Option (Box KnownSeries)) → Type 0
KeepsNone slots = All (λ slot. slot ≡ None) slots

-- each series of the one is kept in the other
abbrev pub KeptAmong : List (Option (Box KnownSeries)) → List (Option (Box KnownSeries)) → Type 0
KeptAmong new old = (s : Seen) → KeepsSeries s old → KeepsSeries s new

-- where there is a series, it is one that is kept in these
abbrev pub IsAmong : List (Option (Box KnownSeries)) → Option (Box KnownSeries) → Type 0
IsAmong slots slot = (s : Seen) → KeepsSeries s slots → IsShownSlot s slot

-- each series is kept in the other, or is this one
abbrev pub IsKept : List (Option (Box KnownSeries)) → Option (Box KnownSeries) → List (Option (Box KnownSeries)) → Type 0
IsKept old slot new = (s : Seen) → KeepsSeries s old → IsShownSlot s slot → KeepsSeries s new
