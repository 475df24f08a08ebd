use Rattle.std.proofs.Common.{◌≡◌}
use Rattle.serde_json.specs.View.{members_view}
use Rattle.query_requests.specs.JsonMembers.{all_texts}
use Rattle.query_requests.proofs.json_members.all_texts.Given as goal

abbrev pub invariant-loop-key : goal.invariant-loop-key
invariant-loop-key l = record {
  next : (goal.iterator-loop-key).can_next l._key-iterator;
  finite : (goal.iterator-loop-key).is_finite l._key-iterator;
  rest : all_texts (members_view l._key-iterator) ≡ all_texts (members_view l.map.entries);
}
