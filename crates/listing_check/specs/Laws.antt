-- The laws of faults.
use Rattle.std.specs.Prelude.{◌≡◌, ◌↔◌, ◌<◌, ℕ, List, [], ◌∷◌, All, AllPairs}
use Rattle.row_key.specs.declared.tables.Table.TheVariants.{Ids}
use Rattle.cell_model.specs.KindWidths.{Widths}
use Rattle.cell_model.specs.Store.{Store}
use Rattle.cell_model.specs.declared.row.ListLine.{ListLine}
use Rattle.cell_model.specs.Rising.{LinesRise}
use Rattle.cell_model.specs.Listed.{store_of}
use Rattle.cell_model.specs.Sound.{IsBase, IsCounter}
use Rattle.cell_listing.specs.ListedLines.{ListingRead, lines_of_cells}
use Rattle.listing_check.specs.Flaws.{NoFlaw}
use Rattle.listing_check.specs.Faults.{AreFaults, AreNotes}
use Rattle.listing_check.specs.declared.report.Flaw.{Flaw}
use Rattle.listing_check.specs.declared.report.Hint.{Hint}

-- the store that these cells tell, where ids have these widths
abbrev pub store_in : Widths → List ListLine → Store
store_in w cells = store_of (record { widths = w; lines = cells })

-- cells that rise are without a flaw exactly where a history may begin with their store
abbrev pub FlawlessIsBase : Type 0
FlawlessIsBase = (w : Widths) (cells : List ListLine) → LinesRise cells → NoFlaw w cells ↔ IsBase (store_in w cells)

-- what a body asks of a line that it is made of, in the words of `map_body`: a line of the counters' row is a counter
abbrev pub IsLoadable : Widths → ListLine → Type 0
IsLoadable w l = l.table ≡ Ids → l.row ≡ 0 ∷ [] → IsCounter w l.qual l.value

-- so it is of each cell, where none has a flaw
abbrev pub FlawlessLoads : Type 0
FlawlessLoads = (w : Widths) (cells : List ListLine) → NoFlaw w cells → All (IsLoadable w) cells

-- all of the lines tell cells, which rise, and a history may begin with their store
pub record IsSoundListing (r : ListingRead) : Type 0 where
  pub cells : List ListLine
  pub lines_are : r.lines ≡ lines_of_cells cells
  pub rising : LinesRise cells
  pub base : IsBase (store_in r.widths cells)

-- a listing has no fault exactly where it is sound
abbrev pub NoFaultIsSound : Type 0
NoFaultIsSound = (r : ListingRead) → AreFaults r [] ↔ IsSoundListing r

-- the numbers of faults rise, and so do those of notes
abbrev pub NumbersRise : Type 0
NumbersRise =
    (r : ListingRead) (faults : List (ℕ × Flaw)) (notes : List (ℕ × Hint)) → AreFaults r faults → AreNotes r notes
    → AllPairs (λ (a b : ℕ × Flaw). a.0 < b.0) faults × AllPairs (λ (a b : ℕ × Hint). a.0 < b.0) notes
