use Rattle.std.proofs.Common.{ℕ, ◌<◌, slice_index_or}
use Rattle.cell_model.specs.declared.row.ListLine.{ListLine}
use Rattle.test_rows.specs.Bases.{IsSoundLine}
use Rattle.test_rows.proofs.base.is_base.Given as goal

abbrev pub invariant-loop-line : goal.invariant-loop-line
invariant-loop-line l = (k : ℕ) (d : ListLine) → k < l.line-index → IsSoundLine (record { widths = l.widths; lines = l.lines }) (slice_index_or l.lines k d)
