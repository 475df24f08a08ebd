use Rattle.std.proofs.Common.{refl, rules}
use Rattle.span_merge.proofs.KeptLemmas.{above_kept, points_more, fold_follows, fold_more, fold_same, on_ok, on_err}
use Rattle.span_merge.proofs.kept_points.keep_more.Goals as goal

pub append-requires : goal.append-requires
append-requires c = above_kept c.args.kept.now c.in-Points.dots c.args.later.now c.in-Points.is c.requires

pub fold_all-requires-clause-follows : goal.fold_all-requires-clause-follows
fold_all-requires-clause-follows c = fold_follows c.args.kept.now c.in-Buckets.fold c.deref_mut.result.now c.args.later.now c.list.result.now c.list.ensures.list (search rules) c.in-Buckets.is c.requires

pub returns-in-Points-clause-ok : goal.returns-in-Points-clause-ok
returns-in-Points-clause-ok c = on_ok c.append.result (points_more c.args.kept.now c.in-Points.dots c.append.new.self c.args.later.now c.in-Points.is) c.append.ensures.ok

pub returns-in-Buckets-clause-ok : goal.returns-in-Buckets-clause-ok
returns-in-Buckets-clause-ok c = on_ok c.fold_all.result (fold_more c.args.kept.now c.in-Buckets.fold (record c.in-Buckets.fold { value = c.fold_all.new.fold }) c.deref_mut.result.now c.fold_all.new.fold c.args.later.now c.list.result.now c.list.ensures.list (search rules) c.in-Buckets.is refl c.fold_all.ensures.interval c.fold_all.ensures.function) c.fold_all.ensures.ok

pub returns-in-Buckets-clause-err : goal.returns-in-Buckets-clause-err
returns-in-Buckets-clause-err c = on_err c.fold_all.result (fold_same c.args.kept.now c.in-Buckets.fold c.deref_mut.result.now c.fold_all.new.fold (search rules) c.in-Buckets.is) c.fold_all.ensures.err
