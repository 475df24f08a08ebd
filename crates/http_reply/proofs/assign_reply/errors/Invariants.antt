use Rattle.std.proofs.Common.{◌≡◌, drop}
use Rattle.serde_json.specs.Data.{no_members}
use Rattle.serde_json.specs.View.{members_view}
use Rattle.http_reply.specs.AssignReplies.{errors_onto}
use Rattle.http_reply.proofs.assign_reply.errors.Given as goal

-- with the elements that are left it is as wanted
abbrev pub invariant-loop-element : goal.invariant-loop-element
invariant-loop-element l = errors_onto (members_view l.errors.entries) (drop l.element-index l.elements) ≡ errors_onto no_members l.elements
