use Rattle.std.proofs.Common.{length}
use Rattle.query_text.proofs.FilterParts.{FiltersKept}
use Rattle.query_text.proofs.filters.add_each.Given as goal

abbrev pub invariant-loop-more : goal.invariant-loop-more
invariant-loop-more l = FiltersKept l.group l.fn.filters.items l.text l.filters.items l.rest

abbrev pub decreases-loop-more : goal.decreases-loop-more
decreases-loop-more l = length l.rest
