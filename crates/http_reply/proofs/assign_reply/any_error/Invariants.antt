use Rattle.std.proofs.Common.{◌≡◌, drop}
use Rattle.http_reply.specs.AssignReplies.{any_error}
use Rattle.http_reply.proofs.assign_reply.any_error.Given as goal

-- none before the place has an error
abbrev pub invariant-loop-element : goal.invariant-loop-element
invariant-loop-element l = any_error (drop l.element-index l.elements) ≡ any_error l.elements
