use Rattle.std.proofs.Common.{◌≡◌, drop}
use Rattle.serde_json.specs.View.{items_view}
use Rattle.name_requests.specs.AssignRequests.{texts_of, behind}
use Rattle.name_requests.proofs.assign_request.texts_of.Given as goal

abbrev pub invariant-loop-item : goal.invariant-loop-item
invariant-loop-item l = behind l.texts.items (texts_of (items_view (drop l.item-index l.item-items))) ≡ texts_of (items_view l.item-items)
