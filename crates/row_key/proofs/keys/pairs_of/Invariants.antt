use Rattle.std.proofs.Common.{length}
use Rattle.row_key.proofs.Once.{IsTail}
use Rattle.row_key.proofs.keys.pairs_of.Given as goal

abbrev pub invariant-tags : goal.invariant-tags
invariant-tags l = IsTail l.widths l.bytes l.pairs.items l.rest

abbrev pub decreases-tags : goal.decreases-tags
decreases-tags l = length l.rest
