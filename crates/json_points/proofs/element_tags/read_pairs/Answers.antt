use Rattle.std.proofs.Common.{◌≡◌, ◌∙◌, ◌+◌, sym, ap, arith, length}
use Rattle.std.specs.Prelude.{string_bytes}
use Rattle.std.specs.Map.Iter.{deref_pair}
use Rattle.std.proofs.lemmas.Map.Iter.{rest_more}
use Rattle.serde_json.specs.View.{view, members_view}
use Rattle.json_points.specs.Elements.{with_front, pairs_in, pair_in}
use Rattle.json_points.proofs.PairLemmas.{pushed}
use Rattle.json_points.proofs.element_tags.read_pairs.Goals as goal

pub loop-key-preserved : goal.loop-key-preserved
loop-key-preserved c = record {
  next = tt;
  finite = tt;
  rest =
      let step = rest_more deref_pair c.loop-key.key-iterator c.next.new.self c.next.result (c.in-Some.key, c.in-Some.value) c.in-Some.is c.next.ensures.steps in
      let n : c.len.result ≡ length c.loop-key.pairs.items = (let e = c.len.ensures in let o = c.loop-key.pairs.ok.0 in omega (arith, e, o)) in
      pushed c.loop-key.pairs.items c.push.new.self.items (string_bytes c.in-Some.key.now) (view c.in-Some.value.now) (members_view c.next.new.self) c.in_ok-pair.pair (members_view c.args.map.now.entries)
      ((λ i. pair_in (sym n i + 1) (sym c.as_str.ensures.value i) (view c.in-Some.value.now)) ∙ c.in_ok-pair.ensures)
      c.in_ok-push.ensures.items
      (ap (λ es. with_front c.loop-key.pairs.items (pairs_in (length c.loop-key.pairs.items + 1) (members_view es))) (sym step) ∙ c.loop-key.invariant.rest);
}
