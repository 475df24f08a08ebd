use Rattle.qual_codec.proofs.Best.{IsKept}
use Rattle.qual_codec.proofs.merge.keep_best.Given as goal

abbrev pub invariant-loop-i : goal.invariant-loop-i
invariant-loop-i l = IsKept l.initial.dots.items l.dots.items l.i l.end
