use Rattle.std.proofs.Common.{length}
use Rattle.qual_codec.proofs.Progress.{HasAdded}
use Rattle.qual_codec.proofs.cell_reader.read_points.Given as goal

abbrev pub invariant-items : goal.invariant-items
invariant-items l = HasAdded l.qual l.value l.rest l.left l.initial.dots.items l.dots.items l.least l.len l.fine l.coarse

abbrev pub decreases-items : goal.decreases-items
decreases-items l = length l.rest
