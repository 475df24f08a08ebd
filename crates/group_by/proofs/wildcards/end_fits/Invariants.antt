use Rattle.std.proofs.Common.{◌≡◌, length}
use Rattle.group_by.specs.Wildcards.{some_end, fits}
use Rattle.group_by.proofs.wildcards.end_fits.Given as goal

abbrev pub invariant-loop-more : goal.invariant-loop-more
invariant-loop-more l = some_end (fits l.text) l.value ≡ some_end (fits l.wild) l.end

abbrev pub decreases-loop-more : goal.decreases-loop-more
decreases-loop-more l = length l.wild
