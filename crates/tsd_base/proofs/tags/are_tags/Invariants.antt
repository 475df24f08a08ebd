use Rattle.std.proofs.Common.{take, drop}
use Rattle.tsd_base.proofs.TagLemmas.{IsSorting}
use Rattle.tsd_base.proofs.tags.are_tags.Given as goal

abbrev pub invariant-loop-i : goal.invariant-loop-i
invariant-loop-i l = IsSorting l.pairs (take l.i l.pairs) (drop l.i l.pairs) (take l.i l.pairs)
