use Rattle.std.proofs.Common.{ℕ, ◌<◌, Contains, slice_index_or}
use Rattle.qual_codec.specs.declared.cells.Dot.{Dot}
use Rattle.test_rows.proofs.merge_step.all_within.Given as goal

abbrev pub invariant-loop-dot : goal.invariant-loop-dot
invariant-loop-dot l = (k : ℕ) (d : Dot) → k < l.dot-index → Contains l.high (slice_index_or l.low k d)
