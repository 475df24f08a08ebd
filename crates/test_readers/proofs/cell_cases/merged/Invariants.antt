use Rattle.std.specs.Prelude.{All}
use Rattle.qual_codec.specs.CellDots.{ReadsByItems}
use Rattle.test_readers.proofs.cell_cases.merged.Given as goal

abbrev pub invariant-loop-qual : goal.invariant-loop-qual
invariant-loop-qual l = All (λ c. ReadsByItems c.qual c.value) l.cells.items
