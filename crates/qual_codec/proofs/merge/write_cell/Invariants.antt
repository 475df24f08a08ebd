use Rattle.std.proofs.Common.{take}
use Rattle.qual_codec.proofs.Written.{HasWritten}
use Rattle.qual_codec.proofs.merge.write_cell.Given as goal

abbrev pub invariant-loop-dot : goal.invariant-loop-dot
invariant-loop-dot l = HasWritten (take l.dot-index l.dots) l.qual.items l.value.items l.fine l.coarse
