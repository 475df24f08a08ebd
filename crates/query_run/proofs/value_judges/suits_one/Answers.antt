use Rattle.std.proofs.Common.{◌≡◌, true}
use Rattle.query_text.specs.FilterTexts.{is_of_text}
use Rattle.metric_scan.specs.RowNames.{known}
use Rattle.query_run.proofs.ValueJudging.{passed_here, passed_more, passed_all}
use Rattle.query_run.proofs.value_judges.suits_one.Goals as goal

pub returns-then-branch : goal.returns-then-branch
returns-then-branch c =
    let text : is_of_text c.args.judge.now.judge.test ≡ true = let e = c.is_of_text.ensures in let v = c.filter.ensures in let t = c.if-not-is_of_text.false in cc in
    passed_here (known c.args.names.now) c.args.judge.now c.args.key c.args.pairs.now c.loop-pair.pair-index c.loop-pair.judge c.loop-pair.invariant (0, 0) c.loop-pair-test.true c.passes_pair.new.judge c.in_ok-passes_pair.field-0 c.in_ok-passes_pair.ensures text c.if-branch.true

pub loop-pair-preserved : goal.loop-pair-preserved
loop-pair-preserved c =
    passed_more (known c.args.names.now) c.args.judge.now c.args.key c.args.pairs.now c.loop-pair.pair-index c.loop-pair.judge c.loop-pair.invariant (0, 0) c.loop-pair-test.true c.passes_pair.new.judge c.in_ok-passes_pair.field-0 c.in_ok-passes_pair.ensures c.if-branch.false

pub returns : goal.returns
returns c =
    let text : is_of_text c.args.judge.now.judge.test ≡ true = let e = c.is_of_text.ensures in let v = c.filter.ensures in let t = c.if-not-is_of_text.false in cc in
    passed_all (known c.args.names.now) c.args.judge.now c.args.key c.args.pairs.now c.loop-pair.pair-index c.loop-pair.judge c.loop-pair.invariant c.loop-pair-test.false text
