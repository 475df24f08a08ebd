use Rattle.std.proofs.Common.{◌≡◌, drop}
use Rattle.serde_json.specs.View.{items_view}
use Rattle.query_requests.specs.JsonFilters.{each_parts}
use Rattle.query_requests.specs.JsonParts.{all_seen}
use Rattle.query_requests.specs.QueryReadings.{with_front}
use Rattle.query_requests.proofs.json_filters.each_parts.Given as goal

abbrev pub invariant-loop-item : goal.invariant-loop-item
invariant-loop-item l = with_front (all_seen l.listed.items) (each_parts (items_view (drop l.item-index l.item-items))) ≡ each_parts (items_view l.item-items)
