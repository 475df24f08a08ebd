use Rattle.std.proofs.Common.{◌≡◌, ◌++◌, length}
use Rattle.map_body.proofs.store_lines.add_rows.Given as goal
use Rattle.map_body.specs.Whole.{lines_in}

abbrev pub invariant-loop-bytes : goal.invariant-loop-bytes
invariant-loop-bytes l = l.listing ++ lines_in l.table l.rows ≡ l.fn.listing ++ lines_in l.table l.fn.rows

abbrev pub decreases-loop-bytes : goal.decreases-loop-bytes
decreases-loop-bytes l = length l.rows
