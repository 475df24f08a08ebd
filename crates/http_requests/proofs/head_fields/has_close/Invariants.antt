use Rattle.std.proofs.Common.{◌≡◌, length}
use Rattle.http_requests.specs.HeadFields.{has_close}
use Rattle.http_requests.proofs.head_fields.has_close.Given as goal

abbrev pub invariant-loop-behind : goal.invariant-loop-behind
invariant-loop-behind l = has_close l.rest ≡ has_close l.value

abbrev pub decreases-loop-behind : goal.decreases-loop-behind
decreases-loop-behind l = length l.rest
