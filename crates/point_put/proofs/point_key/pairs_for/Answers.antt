use Rattle.std.proofs.Common.{ℕ, List, [], take, drop, suc, sym, subst, arith}
use Rattle.arrayvec.specs.ArrayVec.{ArrayVec}
use Rattle.tsd_base.specs.TagList.{Pair, RiseByKey}
use Rattle.cell_model.specs.Layout.{tag_names}
use Rattle.point_put.specs.Admissions.{admission}
use Rattle.point_put.specs.ShownIds.{NamesAsked, PairsShown}
use Rattle.point_put.proofs.Asking.{asked_nothing, passed_on}
use Rattle.point_put.proofs.Tagging.{about, taken, pairs_none, pairs_more, new_id, tag_asked, tag_failed}
use Rattle.point_put.proofs.point_key.pairs_for.Goals as goal

pub loop-tag-init : goal.loop-tag-init
loop-tag-init g c = record {
  asked = asked_nothing (admission c.args.config.now c.args.rule.now.patterns) _;
  pairs = subst (λ (xs : List (ℕ × ℕ)). PairsShown (g.R.Rows.seen c.args.names.now.rows) [] xs) (sym c.new-pairs.ensures) (pairs_none _);
  possible = c.requires.possible;
  grows = omega arith;
}

pub add_pair-requires-clause-new : goal.add_pair-requires-clause-new
add_pair-requires-clause-new g c =
    let i = c.loop-tag.tag-index in
    let tags = c.args.tags.now in
    let tag = c.tag-item.result in
    let same = about tags i tag c.loop-tag-test.true c.tag-item.is in
    let rise = subst RiseByKey same c.requires.tags.rising in
    new_id _ _ (take i tags) (drop (suc i) tags) c.loop-tag.pairs.items tag c.in_ok-pair.pair c.in_ok-pair.ensures.asked.made.since.extends c.in_ok-pair.ensures.leaves.possible c.loop-tag.invariant.pairs c.in_ok-pair.ensures.ids rise

pub loop-tag-preserved : goal.loop-tag-preserved
loop-tag-preserved g c =
    let i = c.loop-tag.tag-index in
    let tags = c.args.tags.now in
    let tag = c.tag-item.result in
    let more = pairs_more _ _ (take i tags) c.loop-tag.pairs.items c.add_pair.new.pairs.items tag c.in_ok-pair.pair c.in_ok-pair.ensures.asked.made.since.extends c.loop-tag.invariant.pairs c.in_ok-pair.ensures.ids c.add_pair.ensures.rising c.add_pair.ensures.permuted in
    record {
      asked = tag_asked (admission c.args.config.now c.args.rule.now.patterns) tags i tag _ _ _ c.in_ok-pair.pair c.loop-tag-test.true c.tag-item.is c.loop-tag.invariant.asked c.in_ok-pair.ensures.asked;
      pairs = subst (λ (ts : List Pair). PairsShown (g.R.Rows.seen c.pair_for.new.names.rows) ts c.add_pair.new.pairs.items) (sym (taken tags i tag c.loop-tag-test.true c.tag-item.is)) more;
      possible = c.in_ok-pair.ensures.leaves.possible;
      grows = let a = c.loop-tag.invariant.grows in let b = c.in_ok-pair.ensures.leaves.grows in omega (arith, a, b);
    }

pub returns-in_err-pair-clause-asked : goal.returns-in_err-pair-clause-asked
returns-in_err-pair-clause-asked g c =
    let failed = tag_failed {U = ArrayVec (ℕ × ℕ)} (admission c.args.config.now c.args.rule.now.patterns) c.args.tags.now c.loop-tag.tag-index c.tag-item.result _ _ _ c.in_err-pair.field-0.0 c.loop-tag-test.true c.tag-item.is c.loop-tag.invariant.asked c.in_err-pair.ensures.asked in
    passed_on (λ r. NamesAsked {T = ArrayVec (ℕ × ℕ)} (admission c.args.config.now c.args.rule.now.patterns) (tag_names c.args.tags.now) (g.R.Rows.seen c.args.names.now.rows) r (g.R.Rows.seen c.pair_for.new.names.rows)) c.in_err-pair.field-0.0 c.from_residual.result c.from_residual.ensures.1 failed
