use Rattle.std.proofs.Common.{take}
use Rattle.qual_codec.specs.Merge.{AreDots}
use Rattle.series_meta.proofs.latest_dot.gather.Given as goal

abbrev pub invariant-loop-i : goal.invariant-loop-i
invariant-loop-i l = AreDots (take l.i l.cells) l.dots.items
