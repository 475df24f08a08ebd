use Rattle.std.proofs.Common.{take}
use Rattle.qual_codec.specs.Merge.{AreDots}
use Rattle.qual_codec.proofs.merge.gather.Given as goal

abbrev pub invariant-loop-cell : goal.invariant-loop-cell
invariant-loop-cell l = AreDots (take l.cell-index l.cells) l.dots.items
