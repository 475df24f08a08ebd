use Rattle.std.proofs.Common.{◌≡◌, length}
use Rattle.serde_json.specs.View.{members_view}
use Rattle.query_requests.specs.JsonFilters.{tag_filters}
use Rattle.query_requests.specs.QueryReadings.{with_front}
use Rattle.query_requests.proofs.json_filters.tag_filters.Given as goal

abbrev pub invariant-loop-key : goal.invariant-loop-key
invariant-loop-key l = record {
  next : (goal.iterator-loop-key).can_next l.key-iterator;
  finite : (goal.iterator-loop-key).is_finite l.key-iterator;
  rest : with_front l.grouping.items (tag_filters (length l.grouping.items) (members_view l.key-iterator)) ≡ tag_filters 0 (members_view l.map.entries);
}
