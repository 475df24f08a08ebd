use Rattle.metric_scan.specs.RowNames.{known}
use Rattle.query_run.proofs.ValueJudging.{Suited}
use Rattle.query_run.proofs.value_judges.suits.Given as goal

abbrev pub invariant-loop-index : goal.invariant-loop-index
invariant-loop-index l = Suited (known l.names) l.initial.judges.items l.filters l.pairs l.index l.judges.items
