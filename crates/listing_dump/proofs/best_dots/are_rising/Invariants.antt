use Rattle.std.proofs.Common.{take}
use Rattle.qual_codec.proofs.CallerLemmas.{RiseBelow}
use Rattle.listing_dump.proofs.best_dots.are_rising.Given as goal

abbrev pub invariant-loop-dot : goal.invariant-loop-dot
invariant-loop-dot l = RiseBelow (take l.dot-index l.dots) l.least
