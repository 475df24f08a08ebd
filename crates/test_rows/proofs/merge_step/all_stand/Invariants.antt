use Rattle.std.proofs.Common.{ℕ, ◌<◌, slice_index_or}
use Rattle.qual_codec.specs.declared.cells.Dot.{Dot}
use Rattle.test_rows.specs.Merges.{StandsIn}
use Rattle.test_rows.proofs.merge_step.all_stand.Given as goal

abbrev pub invariant-loop-dot : goal.invariant-loop-dot
invariant-loop-dot l = (k : ℕ) (d : Dot) → k < l.dot-index → StandsIn l.facts l.row (slice_index_or l.dots k d)
