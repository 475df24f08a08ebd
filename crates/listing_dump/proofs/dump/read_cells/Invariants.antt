use Rattle.std.proofs.Common.{take}
use Rattle.std.specs.Prelude.{map}
use Rattle.qual_codec.specs.Merge.{AreDots}
use Rattle.listing_dump.specs.RowLines.{cell_of_line}
use Rattle.listing_dump.proofs.dump.read_cells.Given as goal

abbrev pub invariant-loop-cell : goal.invariant-loop-cell
invariant-loop-cell l = AreDots (take l.cell-index (map cell_of_line l.cells)) l.dots.items
