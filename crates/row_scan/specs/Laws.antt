-- Laws of whole scans, over every lawful history.
use Rattle.std.specs.Prelude.{◌≡◌, ◌↔◌, ℕ, ◌≤◌, Bool, List, [], ◌∷◌, ◌++◌, length, AllPairs, Contains, None, Some, Ok}
use Rattle.std.specs.declared.cmp.Ordering.TheVariants.{Less}
use Rattle.cell_model.specs.declared.row.Row.{Row}
use Rattle.cell_model.specs.declared.row.Found.{Found}
use Rattle.cell_model.specs.declared.events.Placed.{Placed}
use Rattle.list_lemmas.specs.BytesOrder.{bytes_cmp}
use Rattle.cell_model.specs.Store.{cells_of}
use Rattle.cell_model.specs.History.{History, first, store_after}
use Rattle.cell_model.specs.IdRows.{name_of}
use Rattle.cell_model.specs.Lawful.{IsLawful}
use Rattle.cell_model.specs.Readings.{Reading}
use Rattle.cell_model.specs.Deeds.{InOrder, before_first}
use Rattle.row_scan.specs.Scans.{Left, IsRowOf, IsStart, left_at, behind, TurnMade, AreOther, Wanting, IsWanted, Skips, Scanned, Scanning, HasCell}
use Rattle.row_scan.specs.RowReadings.{ShowsRow, BySeries, AsksWithin, AsksOfWanted, NoConflict, OwnCovers}

-- the row was found with the cells that it had between these lengths
pub record WasFound (h : History) (start end : ℕ) (f : Found) : Type 0 where
  pub when : ℕ
  pub from_on : start ≤ when
  pub up_to : when ≤ end
  pub there : HasCell (store_after (first when h)) f.row
  pub cells : f.cells ≡ cells_of (store_after (first when h)) f.row

-- the rows found rise; each is one of the metric in these hours that was there; and each such row that was there at the start is among them, where it is wanted
pub record ScanGives (wants : Wanting) (h : History) (start end metric first_base last_base : ℕ) (founds : List Found) : Type 0 where
  pub rising : AllPairs (λ (f g : Found). bytes_cmp f.row.bytes g.row.bytes ≡ Less) founds
  pub only : (f : Found) → Contains founds f → IsRowOf (store_after h).widths metric first_base last_base f.row × WasFound h start end f
  pub all : (row : Row) → IsRowOf (store_after h).widths metric first_base last_base row → IsWanted (store_after h).widths wants row → HasCell (store_after (first start h)) row → (f : Found) × Contains founds f × (f.row ≡ row)

-- a whole scan gives every wanted row of the metric in the hours that was there before its first step, once and in order, whatever others merged and dropped meanwhile
abbrev pub ScanIsWhole : Type 0
ScanIsWhole = (wants : Wanting) (h : History) (end metric first_base last_base : ℕ) (left : Left) (own : List Placed) (founds : List Found)
    → IsLawful h → InOrder h end own → IsStart (store_after h).widths metric first_base last_base left → Scanned wants left own founds
    → ScanGives wants h (before_first own end) end metric first_base last_base founds

-- it finds no more rows than any list has that holds each row of the metric in the hours which is there at its end
abbrev pub ScanCounts : Type 0
ScanCounts = (wants : Wanting) (h : History) (end metric first_base last_base : ℕ) (left : Left) (own : List Placed) (founds : List Found)
    → IsLawful h → InOrder h end own → IsStart (store_after h).widths metric first_base last_base left → Scanned wants left own founds
    → (rows : List Row) → ((row : Row) → IsRowOf (store_after h).widths metric first_base last_base row → HasCell (store_after (first end h)) row → Contains rows row) → length founds ≤ length rows

-- the rows that its entries show are those that it found
abbrev pub ScanShows : Type 0
ScanShows = (wants : Wanting) (h : History) (end : ℕ) (left : Left) (own : List Placed) (founds : List Found) → IsLawful h → InOrder h end own → Scanned wants left own founds
    → (f : Found) → ShowsRow own f ↔ Contains founds f

-- a whole scan that shows no conflict covers what is asked for, whatever was put, merged and dropped meanwhile
abbrev pub ScanCovers : Type 0
ScanCovers = (wants : Wanting) (h : History) (end metric first_base last_base : ℕ) (left : Left) (own : List Placed) (founds : List Found) (asked : Reading → Bool)
    → IsLawful h → InOrder h end own → IsStart (store_after h).widths metric first_base last_base left → Scanned wants left own founds
    → BySeries asked → AsksWithin asked (first end h) metric first_base last_base → AsksOfWanted wants asked (first end h) → NoConflict (store_after (first end h)).widths (name_of (first end h)) asked own → OwnCovers asked own end h

-- where no turn was made yet, all is left
abbrev pub ScanBegins : Type 0
ScanBegins = (wants : Wanting) (left : Left) → Scanning wants left [] [] left

-- a turn that found a row goes on behind it
abbrev pub TurnGoesOn : Type 0
TurnGoesOn = (wants : Wanting) (first now : Left) (own list : List Placed) (founds : List Found) (f : Found) → Scanning wants first own founds now → TurnMade now (Ok (Some f)) list
    → Scanning wants first (own ++ list) (founds ++ f ∷ []) (behind now f.row)

-- other steps between the turns change nothing
abbrev pub OthersPass : Type 0
OthersPass = (wants : Wanting) (first now : Left) (own list : List Placed) (founds : List Found) → Scanning wants first own founds now → AreOther list → Scanning wants first (own ++ list) founds now

-- nor does going on where no row in between is wanted
abbrev pub SkipsPass : Type 0
SkipsPass = (wants : Wanting) (first now : Left) (own : List Placed) (founds : List Found) (from : List ℕ) → Scanning wants first own founds now → Skips wants now from → Scanning wants first own founds (left_at now from)

-- a turn that found none ends the scan
abbrev pub TurnEnds : Type 0
TurnEnds = (wants : Wanting) (first now : Left) (own list : List Placed) (founds : List Found) → Scanning wants first own founds now → TurnMade now (Ok None) list → Scanned wants first (own ++ list) founds
