use Rattle.std.proofs.Common.{◌≡◌, ◌++◌, map}
use Rattle.map_body.proofs.store_lines.add_row.Given as goal
use Rattle.packed_cells.specs.Keyed.{cells_in}
use Rattle.map_body.proofs.CellLines.{line_at}
use Rattle.std.specs.Prelude.{take}

abbrev pub invariant-loop-i : goal.invariant-loop-i
invariant-loop-i l = record { packed : l.packed ≡ cells_in l.fn.row; so_far : l.listing ≡ l.fn.listing ++ map (line_at l.table l.bytes) (take l.i l.packed) }
