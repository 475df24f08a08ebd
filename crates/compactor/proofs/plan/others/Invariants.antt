use Rattle.std.proofs.Common.{◌≡◌, List, ◌++◌}
use Rattle.std.specs.Slice.Iter.{iter_rest}
use Rattle.std.specs.Iterator.Adapters.{rev_source}
use Rattle.qual_codec.specs.declared.cells.Cell.{Cell}
use Rattle.compactor.specs.Compaction.{others}
use Rattle.compactor.proofs.plan.others.Given as goal

-- those of the cells behind the place are named
abbrev pub invariant-loop-cell : goal.invariant-loop-cell
invariant-loop-cell l = (behind : List Cell) × (l.cells ≡ iter_rest (rev_source l.cell-iterator) ++ behind) × (l.drops ≡ others l.qual behind)
