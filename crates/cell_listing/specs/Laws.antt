-- The law of printed lines.
use Rattle.std.specs.Prelude.{◌≡◌, ◌≤◌, length, Some}
use Rattle.hex.specs.Hex.{IsBytes}
use Rattle.cell_model.specs.declared.row.ListLine.{ListLine}
use Rattle.cell_listing.specs.Grammar.{cell_in, line_text}
use Rattle.cell_listing.specs.declared.listing_line.TheConstants.{LONGEST_LISTED}

-- a cell whose line isn't too long: bytes, and no part empty
pub record IsPrintable (l : ListLine) : Type 0 where
  pub row : IsBytes l.row × (1 ≤ length l.row)
  pub qual : IsBytes l.qual × (1 ≤ length l.qual)
  pub value : IsBytes l.value × (1 ≤ length l.value)
  pub short : length (line_text l) ≤ LONGEST_LISTED

-- what is printed of a cell tells this cell
abbrev pub LinesReadBack : Type 0
LinesReadBack = (l : ListLine) → IsPrintable l → cell_in (line_text l) ≡ Some l
