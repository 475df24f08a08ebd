use Rattle.metric_scan.specs.RowNames.{known}
use Rattle.query_run.proofs.ValueJudging.{Passed}
use Rattle.query_run.proofs.value_judges.suits_one.Given as goal

abbrev pub invariant-loop-pair : goal.invariant-loop-pair
invariant-loop-pair l = Passed (known l.names) l.initial.judge l.key l.pairs l.pair-index l.judge
