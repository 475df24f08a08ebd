use Rattle.std.proofs.Common.{◌≡◌, ◌++◌, length}
use Rattle.name_requests.specs.AssignRequests.{comma_names}
use Rattle.name_requests.proofs.comma_list.comma_names.Given as goal

abbrev pub invariant-loop-at : goal.invariant-loop-at
invariant-loop-at l = l.names.items ++ comma_names l.rest ≡ comma_names l.text

abbrev pub decreases-loop-at : goal.decreases-loop-at
decreases-loop-at l = length l.rest
