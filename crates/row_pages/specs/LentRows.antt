-- Cells that are lent to be changed.
use Rattle.std.specs.Prelude.{ℕ, List, Option}
use Rattle.std.specs.Borrow.{LendsIf, MutBor, Fml}
use Rattle.std.specs.FinMap.{insert}
use Rattle.packed_cells.specs.Keyed.{CellMap}
use Rattle.packed_cells.specs.contracts.row_cells.RowCells as cells
use Rattle.row_pages.specs.RowMaps.{Rows}
use Rattle.row_pages.specs.contracts.row_map.RowPages as pages

-- the row has what the cells are in the end; where nothing is lent, the rows are as before
abbrev pub LendsCells : MutBor Rows → List ℕ → Option (MutBor CellMap) → Fml
LendsCells rows row lent = LendsIf pages.the_row cells.the_row rows lent (λ m. insert rows.now row m) rows.now
