use Rattle.std.proofs.Common.{◌≡◌, map, take}
use Rattle.series_meta.specs.RowCounts.{without_value}
use Rattle.series_meta.proofs.row_count.without_values.Given as goal

abbrev pub invariant-loop-dot : goal.invariant-loop-dot
invariant-loop-dot l = l.list.items ≡ map without_value (take l.dot-index l.dots)
