use Rattle.std.proofs.Common.{◌≡◌, ◌+◌, length}
use Rattle.serde_json.specs.View.{members_view}
use Rattle.json_points.specs.Elements.{pairs_in, with_front}
use Rattle.json_points.proofs.element_tags.read_pairs.Given as goal

abbrev pub invariant-loop-key : goal.invariant-loop-key
invariant-loop-key l = record {
  next : (goal.iterator-loop-key).can_next l.key-iterator;
  finite : (goal.iterator-loop-key).is_finite l.key-iterator;
  rest : with_front l.pairs.items (pairs_in (length l.pairs.items + 1) (members_view l.key-iterator)) ≡ pairs_in 1 (members_view l.map.entries);
}
