use Rattle.std.proofs.Common.{◌≡◌, ◌∙◌, sym, ap, arith, length}
use Rattle.std.specs.Prelude.{string_bytes}
use Rattle.std.specs.Map.Iter.{deref_pair}
use Rattle.std.proofs.lemmas.Map.Iter.{rest_more}
use Rattle.serde_json.specs.View.{view, members_view}
use Rattle.query_requests.specs.JsonFilters.{tag_filter, tag_filters}
use Rattle.query_requests.specs.QueryReadings.{with_front}
use Rattle.query_requests.proofs.JsonLemmas.{tag_pushed}
use Rattle.query_requests.proofs.json_filters.tag_filters.Goals as goal

pub loop-key-preserved : goal.loop-key-preserved
loop-key-preserved c = record {
  next = tt;
  finite = tt;
  rest =
      let step = rest_more deref_pair c.loop-key.key-iterator c.next.new.self c.next.result (c.in-Some.key, c.in-Some.value) c.in-Some.is c.next.ensures.steps in
      let n : c.len.result ≡ length c.loop-key.grouping.items = (let e = c.len.ensures in let o = c.loop-key.grouping.ok.0 in omega (arith, e, o)) in
      tag_pushed c.loop-key.grouping.items c.push.new.self.items (string_bytes c.in-Some.key.now) (view c.in-Some.value.now) (members_view c.next.new.self) c.in_ok-filter.filter (tag_filters 0 (members_view c.args.map.now.entries))
      ((λ i. tag_filter (sym n i) (sym c.as_str.ensures.value i) (view c.in-Some.value.now)) ∙ c.in_ok-filter.ensures)
      c.in_ok-push.ensures.items
      (ap (λ es. with_front c.loop-key.grouping.items (tag_filters (length c.loop-key.grouping.items) (members_view es))) (sym step) ∙ c.loop-key.invariant.rest);
}
