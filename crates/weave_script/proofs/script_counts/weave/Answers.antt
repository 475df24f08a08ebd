use Rattle.std.proofs.Common.{◌≡◌, ℕ, ◌<◌, ◌^◌, List, sym, ap, subst}
use Rattle.std.specs.Prelude.{slice_index_or}
use Rattle.tsd_base.specs.declared.kinds.Kind.TheVariants.{Metric, TagKey, TagValue}
use Rattle.weave_script.proofs.Wasted.{counter_fits, counts_woven}
use Rattle.weave_script.proofs.script_counts.weave.Goals as goal

pub count_wasted-requires-clause-metrics : goal.count_wasted-requires-clause-metrics
count_wasted-requires-clause-metrics c =
    let t = c.tally-tally.ensures in
    subst (λ (n : ℕ). n < 2 ^ 32) (sym (ap (λ (ids : List ℕ). slice_index_or ids 0 0) t.ids)) (counter_fits c.in_ok-store.store.body.content t.counters Metric)

pub count_wasted-requires-clause-tag_keys : goal.count_wasted-requires-clause-tag_keys
count_wasted-requires-clause-tag_keys c =
    let t = c.tally-tally.ensures in
    subst (λ (n : ℕ). n < 2 ^ 32) (sym (ap (λ (ids : List ℕ). slice_index_or ids 1 0) t.ids)) (counter_fits c.in_ok-store.store.body.content t.counters TagKey)

pub count_wasted-requires-clause-tag_values : goal.count_wasted-requires-clause-tag_values
count_wasted-requires-clause-tag_values c =
    let t = c.tally-tally.ensures in
    subst (λ (n : ℕ). n < 2 ^ 32) (sym (ap (λ (ids : List ℕ). slice_index_or ids 2 0) t.ids)) (counter_fits c.in_ok-store.store.body.content t.counters TagValue)

pub returns : goal.returns
returns c =
    let t = c.tally-tally.ensures in
    counts_woven c.args.count c.from.result c.in_ok-store.store.accepted c.in_ok-store.store.body.content c.in_ok-listing.listing c.tally-tally.result.ids c.count_wasted.result c.tally-tally.result.point_cells c.in_ok-store.ensures c.from.ensures t.ids
    c.in_ok-listing.ensures c.count_wasted.ensures t.cells
