use Rattle.std.proofs.Common.{take}
use Rattle.series_meta.proofs.RowCounting.{AreSingle}
use Rattle.series_meta.proofs.row_count.rising_count.Given as goal

abbrev pub invariant-loop-i : goal.invariant-loop-i
invariant-loop-i g l = AreSingle (take l.i l.cells) l.least
