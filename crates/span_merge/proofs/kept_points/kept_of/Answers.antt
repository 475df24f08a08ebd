use Rattle.std.proofs.Common.{rules}
use Rattle.span_merge.proofs.KeptLemmas.{first_follow, first_kept}
use Rattle.span_merge.proofs.kept_points.kept_of.Goals as goal

pub fold_all-requires-clause-follows : goal.fold_all-requires-clause-follows
fold_all-requires-clause-follows c = first_follow c.make-fold.result c.list.result.now c.make-fold.ensures.folds

pub returns : goal.returns
returns c =
    first_kept c.args.how c.in-Some.down c.make-fold.result c.fold_all.new.fold c.in_ok-new.field-0 c.args.dots c.list.result.now c.list.ensures.list (search rules) c.in-Some.is c.make-fold.ensures.interval c.make-fold.ensures.function c.make-fold.ensures.folds
    c.in_ok-fold_all.ensures.interval c.in_ok-fold_all.ensures.function c.in_ok-fold_all.ensures.ok
