use Rattle.std.proofs.Common.{pos, get_or, FitsSigned, w64, rules, arith}
use Rattle.std.proofs.lemmas.Int.{to_z-of_z}
use Rattle.downsample.proofs.FoldingAll.{is_next, folded_next, folded_all}
use Rattle.downsample.proofs.bucket_fold.fold_each.Goals as goal

pub loop-dot-init : goal.loop-dot-init
loop-dot-init c = search rules

pub add-requires : goal.add-requires
add-requires c = is_next c.requires.follows.0 c.args.fold.now c.loop-dot.fold c.args.later.now c.loop-dot.dot-index (0, pos 0) c.requires.rising c.loop-dot-test.true c.requires.follows.1 c.loop-dot.invariant.folded

pub loop-dot-preserved : goal.loop-dot-preserved
loop-dot-preserved c =
    let fit : FitsSigned w64 (get_or c.args.later.now c.loop-dot.dot-index (0, pos 0)).1 = search rules in
    record {
      within = omega (arith, c.loop-dot-test.true);
      interval = search rules;
      function = search rules;
      folded = folded_next c.args.fold.now c.loop-dot.fold c.add.new.self c.args.later.now c.loop-dot.dot-index (0, pos 0) _ (to_z-of_z w64 _ fit) c.requires.rising c.loop-dot-test.true c.loop-dot.invariant.folded c.in_ok-add.ensures.ok;
    }

pub returns-clause-ok : goal.returns-clause-ok
returns-clause-ok c = folded_all c.args.fold.now c.loop-dot.fold c.args.later.now c.loop-dot.dot-index (let t = c.loop-dot-test.false in omega (arith, t)) c.loop-dot.invariant.folded
