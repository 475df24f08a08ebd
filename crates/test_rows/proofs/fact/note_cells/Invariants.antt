use Rattle.cell_model.specs.Seen.{Seen}
use Rattle.test_rows.specs.Facts.{AllHold, ShowsAll}
use Rattle.test_rows.proofs.fact.note_cells.Given as goal

abbrev pub invariant-loop-i : goal.invariant-loop-i
invariant-loop-i l = (s : Seen) → AllHold s l.fn.facts.items → ShowsAll s l.row l.cells → AllHold s l.facts.items
