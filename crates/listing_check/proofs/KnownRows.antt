-- The flaw of a row of points, kept for the row's cells.
use Rattle.std.proofs.Common.{◌≡◌, List}
use Rattle.std.specs.Prelude.{Option, None}
use Rattle.cell_model.specs.declared.row.ListLine.{ListLine}
use Rattle.cell_model.specs.KindWidths.{Widths}
use Rattle.listing_check.specs.RowFlaws.{IsKnown}
use Rattle.listing_check.specs.declared.cell_flaws.RowFlaw.{RowFlaw}

pub none_known : (w : Widths) (cells : List ListLine) (known : Option RowFlaw) → known ≡ None → IsKnown w cells known
none_known w cells known e r l is at = absurd cc
