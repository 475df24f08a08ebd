use Rattle.std.proofs.lemmas.Result.{err_from_is_err_and}
use Rattle.tsd_base.proofs.PointLemmas.{pairs_go_on, pairs_fail, pairs_end}
use Rattle.tsd_base.proofs.point_text.read_pairs.Goals as goal

pub returns-in_err-pair : goal.returns-in_err-pair
returns-in_err-pair c =
    let p = err_from_is_err_and c.from_residual.result c.from_residual.ensures.1 in
    let so_far = rw c.in-Some.ensures.words at c.loop-word.invariant in
    rw (p.1, p.2) (pairs_fail c.in_err-pair.field-0.0 _ _ _ _ _ (rw c.len.ensures at c.in_err-pair.ensures) so_far)

pub loop-word-preserved : goal.loop-word-preserved
loop-word-preserved c =
    let so_far = rw c.in-Some.ensures.words at c.loop-word.invariant in
    rw (c.in_ok-push.ensures.items, c.in_ok-push.ensures.len) (pairs_go_on _ _ _ _ _ _ (rw c.len.ensures at c.in_ok-pair.ensures) so_far)

pub returns : goal.returns
returns c = pairs_end _ _ _ (rw c.in_default.ensures.words at c.loop-word.invariant)
