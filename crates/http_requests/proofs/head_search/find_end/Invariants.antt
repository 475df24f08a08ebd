use Rattle.std.proofs.Common.{◌-◌, length}
use Rattle.http_requests.specs.HeadEnds.{IsSearched}
use Rattle.http_requests.proofs.head_search.find_end.Given as goal

abbrev pub invariant-loop-at : goal.invariant-loop-at
invariant-loop-at l = IsSearched l.bytes l.at l.begun

abbrev pub decreases-loop-at : goal.decreases-loop-at
decreases-loop-at l = length l.bytes - l.at
