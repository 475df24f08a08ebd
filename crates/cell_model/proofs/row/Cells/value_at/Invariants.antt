use Rattle.std.proofs.Common.{◌≡◌, drop}
use Rattle.cell_model.specs.Store.{value_among}
use Rattle.cell_model.proofs.row.Cells.value_at.Given as goal

-- what is left decides
abbrev pub invariant-loop-i : goal.invariant-loop-i
invariant-loop-i l = value_among l.self l.qual ≡ value_among (drop l.i l.self) l.qual
