use Rattle.std.proofs.Common.{rules}
use Rattle.metric_scan.specs.RowNames.{known}
use Rattle.query_run.proofs.ValueJudging.{suited_more, unsuited, suited_all}
use Rattle.query_run.proofs.value_judges.suits.Goals as goal

pub returns-then-not-branch : goal.returns-then-not-branch
returns-then-not-branch c =
    unsuited (known c.args.names.now) c.args.judges.now.items c.args.filters.now c.args.pairs.now c.requires.as_many c.loop-index.index c.loop-index.judges.items c.loop-index.invariant c.index_mut.result.now c.index-filters-index.result (search rules) (search rules) c.suits_one.new.judge
    c.in_ok-suits_one.field-0 c.in_ok-suits_one.ensures (search rules)

pub loop-index-preserved : goal.loop-index-preserved
loop-index-preserved c =
    suited_more (known c.args.names.now) c.args.judges.now.items c.args.filters.now c.args.pairs.now c.requires.as_many c.loop-index.index c.loop-index.judges.items c.loop-index.invariant c.index_mut.result.now c.index-filters-index.result (search rules) (search rules) c.suits_one.new.judge
    c.in_ok-suits_one.field-0 c.in_ok-suits_one.ensures (search rules)

pub returns : goal.returns
returns c = suited_all (known c.args.names.now) c.args.judges.now.items c.args.filters.now c.args.pairs.now c.requires.as_many c.loop-index.index c.loop-index.judges.items c.loop-index.invariant (search rules)
