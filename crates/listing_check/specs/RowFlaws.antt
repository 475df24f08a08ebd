-- The flaw of a row of points, which is kept for the row's cells.
use Rattle.std.specs.Prelude.{◌≡◌, ℕ, true, false, List, Option, None, Some}
use Rattle.row_key.specs.declared.keys.RowKey.{RowKey}
use Rattle.cell_model.specs.declared.row.ListLine.{ListLine}
use Rattle.cell_model.specs.KindWidths.{Widths}
use Rattle.listing_check.specs.Flaws.{IsKeyOf, all_named}
use Rattle.listing_check.specs.RowNotes.{IsAt}
use Rattle.listing_check.specs.declared.cell_flaws.RowFlaw.{RowFlaw}
use Rattle.listing_check.specs.declared.report.Flaw.{Flaw}
use Rattle.listing_check.specs.declared.report.Flaw.TheVariants.{BadKey, RowNoName}

-- the flaw of a row of points, or none
abbrev pub KeyFlaw : Widths → List ListLine → List ℕ → Option Flaw → Type 0
KeyFlaw w cells row None = (key : RowKey) × IsKeyOf w row key × (all_named w cells key ≡ true)
KeyFlaw w cells row (Some BadKey) = (key : RowKey) → IsKeyOf w row key → ⊥
KeyFlaw w cells row (Some RowNoName) = (key : RowKey) × IsKeyOf w row key × (all_named w cells key ≡ false)
KeyFlaw w cells row (Some _) = ⊥

-- a cell stands there, and has the row
pub record IsRowAt (cells : List ListLine) (at : ℕ) (row : List ℕ) : Type 0 where
  pub cell : ListLine
  pub is : IsAt cells at cell
  pub row_is : cell.row ≡ row

-- what is kept is the flaw of the row of the cell there
abbrev pub IsKnown : Widths → List ListLine → Option RowFlaw → Type 0
IsKnown w cells known = (r : RowFlaw) (l : ListLine) → known ≡ Some r → IsAt cells r.at l → KeyFlaw w cells l.row r.flaw
