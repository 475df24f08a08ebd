-- The notes of cells, one after the other: what is known of the row that the cells so far end with.
use Rattle.std.specs.Prelude.{◌≡◌, ◌↔◌, ℕ, ◌+◌, ◌<◌, Bool, not, false, List, [], ◌++◌, Contains, length, take, slice_index_or, Option, None, Some}
use Rattle.qual_codec.specs.declared.cells.Dot.{Dot}
use Rattle.qual_codec.specs.CellDots.{HoldsDots}
use Rattle.row_key.specs.declared.tables.Table.TheVariants.{Points}
use Rattle.cell_model.specs.declared.row.ListLine.{ListLine}
use Rattle.cell_model.specs.KindWidths.{Widths}
use Rattle.listing_check.specs.UidCells.{UidCell}
use Rattle.listing_check.specs.UidCells.UidCell.{Counter, Forward, Reverse}
use Rattle.listing_check.specs.Flaws.{FlawOf, has_id}
use Rattle.listing_check.specs.Faults.{NoteOf, told}
use Rattle.listing_check.specs.RowValues.{Keeps}
use Rattle.listing_check.specs.declared.report.Flaw.{Flaw}
use Rattle.listing_check.specs.declared.report.Hint.{Hint}
use Rattle.listing_check.specs.declared.row_values.RowValues.{RowValues}

-- a name of an id whose name has another id, or none
abbrev pub is_wasted : Widths → List ListLine → Option UidCell → Bool
is_wasted w cells None = false
is_wasted w cells (Some (Counter kind number)) = false
is_wasted w cells (Some (Forward kind name id)) = false
is_wasted w cells (Some (Reverse kind id name)) = not (has_id w cells kind name id)

-- the cell stands at this place
pub record IsAt (cells : List ListLine) (at : ℕ) (l : ListLine) : Type 0 where
  pub within : at < length cells
  pub is : l ≡ slice_index_or cells at l

-- the cell before this place has the row
pub record AreOneRow (cells : List ListLine) (at : ℕ) (row : List ℕ) : Type 0 where
  pub before : ℕ
  pub last : ListLine
  pub next : at ≡ before + 1
  pub is : IsAt cells before last
  pub row_is : last.row ≡ row

-- a dot of a cell of points without a flaw, which is one of these and has the row
pub record DotIn (w : Widths) (cells earlier : List ListLine) (row : List ℕ) (d : Dot) : Type 0 where
  pub cell : ListLine
  pub is_in : Contains earlier cell
  pub points : cell.table ≡ Points
  pub row_is : cell.row ≡ row
  pub free : FlawOf w cells cell None
  pub dots : List Dot
  pub reads : HoldsDots cell.qual cell.value dots
  pub has : Contains dots d

-- the values are those of the row in these cells
pub record SeenIn (w : Widths) (cells earlier : List ListLine) (row : List ℕ) (values : RowValues) : Type 0 where
  pub dots : List Dot
  pub known : (d : Dot) → Contains dots d ↔ DotIn w cells earlier row d
  pub kept : Keeps dots values

-- the values are those of the row of the cell before this place, if there is one
abbrev pub IsRowKept : Widths → List ListLine → ℕ → RowValues → Type 0
IsRowKept w cells at values = (before : ℕ) (last : ListLine) → at ≡ before + 1 → IsAt cells before last → SeenIn w cells (take at cells) last.row values

-- the note of the cell at this place, and the values behind it
pub record IsNoted (w : Widths) (cells : List ListLine) (at : ℕ) (l : ListLine) (note : Option Hint) (values : RowValues) : Type 0 where
  pub note_is : NoteOf w cells (take at cells) l note
  pub kept : IsRowKept w cells (at + 1) values

-- what was told of the cell at this place
pub record IsTold (w : Widths) (cells : List ListLine) (at number : ℕ) (faults faults' : List (ℕ × Flaw)) (notes notes' : List (ℕ × Hint)) (values : RowValues) : Type 0 where
  pub cell : ListLine
  pub is : IsAt cells at cell
  pub flaw : Option Flaw
  pub flaw_is : FlawOf w cells cell flaw
  pub faults_are : faults' ≡ faults ++ told number flaw []
  pub note : Option Hint
  pub note_is : IsNoted w cells at cell note values
  pub notes_are : notes' ≡ notes ++ told number note []
