use Rattle.std.proofs.Common.{arith}
use Rattle.std.proofs.lemmas.Result.{err_from_is_err_and}
use Rattle.qual_codec.proofs.Best.{conflict_at, kept_dot, kept_step, kept_whole}
use Rattle.qual_codec.proofs.merge.keep_best.Goals as goal

pub returns-in_err-end-clause-conflict : goal.returns-in_err-end-clause-conflict
returns-in_err-end-clause-conflict c =
    let p = err_from_is_err_and c.from_residual.result c.from_residual.ensures.1 in
    let l = c.loop-i in
    rw (p.1, p.2) (conflict_at c.args.dots.now.items _ l.i _ _ l.invariant.kept (kept_dot c.args.dots.now.items l.dots.items l.i l.end _ l.invariant (omega arith) c.requires c.index-dot.ensures) c.in_err-end.ensures.err)

pub loop-i-preserved : goal.loop-i-preserved
loop-i-preserved c =
    let l = c.loop-i in
    kept_step c.args.dots.now.items l.dots.items _ l.i l.end _ _ l.invariant (kept_dot c.args.dots.now.items l.dots.items l.i l.end _ l.invariant (omega arith) c.requires c.index-dot.ensures) c.in_ok-end.ensures.ok

pub returns-clause-kept : goal.returns-clause-kept
returns-clause-kept c = kept_whole c.args.dots.now.items c.loop-i.dots.items _ c.loop-i.i c.loop-i.end c.loop-i.invariant (omega arith) c.truncate.ensures.items
