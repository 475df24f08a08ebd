use Rattle.std.proofs.Common.{◌≡◌, drop}
use Rattle.serde_json.specs.Data.{no_members}
use Rattle.serde_json.specs.View.{members_view}
use Rattle.http_reply.specs.AssignReplies.{ids_onto}
use Rattle.http_reply.proofs.assign_reply.ids.Given as goal

-- with the elements that are left it is as wanted
abbrev pub invariant-loop-element : goal.invariant-loop-element
invariant-loop-element l = ids_onto l.width (members_view l.ids.entries) (drop l.element-index l.elements) ≡ ids_onto l.width no_members l.elements
