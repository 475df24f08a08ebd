use Rattle.std.proofs.Common.{ℕ, List, [], take, drop, suc, sym, subst, arith}
use Rattle.std.proofs.lemmas.List.{take_all}
use Rattle.arrayvec.specs.ArrayVec.{ArrayVec}
use Rattle.tsd_base.specs.TagList.{Pair, RiseByKey}
use Rattle.cell_model.specs.Layout.{tag_names}
use Rattle.uid_table.specs.ShownKeys.{PairsShown}
use Rattle.metric_scan.specs.ResolvedIds.{AreResolved, Resolves}
use Rattle.series_meta.proofs.NameLooks.{passed_on, resolved_none, tags_more, tags_fail}
use Rattle.series_meta.proofs.TagPairs.{about, taken, pairs_none, pairs_more, new_id}
use Rattle.series_meta.proofs.series_row.pairs_of.Goals as goal

pub loop-tag-init : goal.loop-tag-init
loop-tag-init g c = record {
  resolved = resolved_none _;
  pairs = subst (λ (xs : List (ℕ × ℕ)). PairsShown (g.R.Rows.seen c.args.names.now.rows) [] xs) (sym c.new-pairs.ensures) (pairs_none _);
  possible = c.requires.possible;
  grows = omega arith;
}

pub add_pair-requires-clause-new : goal.add_pair-requires-clause-new
add_pair-requires-clause-new g c =
    let i = c.loop-tag.tag-index in
    let tags = c.args.tags.now in
    let tag = c.tag-item.result in
    let same = about tags i tag c.loop-tag-test.true c.tag-item.is in
    let rise = subst RiseByKey same c.requires.tags.rising in
    new_id _ _ (take i tags) (drop (suc i) tags) c.loop-tag.pairs.items tag c.in_ok-pair.pair c.in_ok-pair.ensures.says.0.made.since.extends c.in_ok-pair.ensures.leaves.possible c.loop-tag.invariant.pairs c.in_ok-pair.ensures.says.1 rise

pub loop-tag-preserved : goal.loop-tag-preserved
loop-tag-preserved g c =
    let i = c.loop-tag.tag-index in
    let tags = c.args.tags.now in
    let tag = c.tag-item.result in
    let more = pairs_more _ _ (take i tags) c.loop-tag.pairs.items c.add_pair.new.pairs.items tag c.in_ok-pair.pair c.in_ok-pair.ensures.says.0.made.since.extends c.loop-tag.invariant.pairs c.in_ok-pair.ensures.says.1 c.add_pair.ensures.rising c.add_pair.ensures.permuted in
    record {
      resolved = tags_more tags i tag _ _ _ c.loop-tag-test.true c.tag-item.is c.loop-tag.invariant.resolved c.in_ok-pair.ensures.says.0;
      pairs = subst (λ (ts : List Pair). PairsShown (g.R.Rows.seen c.tag_ids.new.names.rows) ts c.add_pair.new.pairs.items) (sym (taken tags i tag c.loop-tag-test.true c.tag-item.is)) more;
      possible = c.in_ok-pair.ensures.leaves.possible;
      grows = let a = c.loop-tag.invariant.grows in let b = c.in_ok-pair.ensures.leaves.grows in omega (arith, a, b);
    }

pub returns-in_err-pair-clause-says : goal.returns-in_err-pair-clause-says
returns-in_err-pair-clause-says g c =
    passed_on (λ r. Resolves {X = ArrayVec (ℕ × ℕ)} (g.R.Rows.seen c.args.names.now.rows) (tag_names c.args.tags.now) (λ s pairs. PairsShown s c.args.tags.now pairs.items) r (g.R.Rows.seen c.tag_ids.new.names.rows)) c.in_err-pair.field-0.0 c.from_residual.result c.from_residual.ensures.1
    (tags_fail c.args.tags.now c.loop-tag.tag-index c.tag-item.result _ _ _ c.loop-tag-test.true c.tag-item.is c.loop-tag.invariant.resolved c.in_err-pair.field-0.0 c.in_err-pair.ensures.says)

pub returns-clause-says : goal.returns-clause-says
returns-clause-says g c =
    let i = c.loop-tag.tag-index in
    let tags = c.args.tags.now in
    let all = take_all i tags c.loop-tag-test.false in
    let far = c.loop-tag.invariant in (
      subst (λ (ts : List Pair). AreResolved (g.R.Rows.seen c.args.names.now.rows) (tag_names ts) (g.R.Rows.seen c.loop-tag.names.rows)) all far.resolved,
      subst (λ (ts : List Pair). PairsShown (g.R.Rows.seen c.loop-tag.names.rows) ts c.loop-tag.pairs.items) all far.pairs,
    )
