use Rattle.std.proofs.Common.{◌≡◌, drop, All}
use Rattle.serde_json.specs.View.{items_view}
use Rattle.query_requests.specs.JsonQueries.{subs_in}
use Rattle.query_requests.specs.QueryReadings.{with_front}
use Rattle.query_text.specs.Subs.{CanDown}
use Rattle.query_requests.proofs.json_query.subs_in.Given as goal

abbrev pub invariant-loop-query : goal.invariant-loop-query
invariant-loop-query l = record {
  read : with_front l.subs.items (subs_in l.ms (items_view (drop l.query-index l.query-items))) ≡ subs_in l.ms (items_view l.query-items);
  downs : All (CanDown l.ms) l.subs.items;
}
