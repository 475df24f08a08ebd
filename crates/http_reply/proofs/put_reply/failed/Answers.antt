use Rattle.std.proofs.Common.{◌∙◌, sym}
use Rattle.http_reply.proofs.Outcomes.{counted, passed_over}
use Rattle.http_reply.proofs.put_reply.failed.Goals as goal
use Rattle.http_reply.proofs.put_reply.failed.Goals.{then-is_some, else-is_some}

pub loop-outcome-preserved : goal.loop-outcome-preserved
loop-outcome-preserved c = elim c.if-is_some.branch [
  | then-is_some w ↦ counted c.args.outcomes.now c.loop-outcome.outcome-index c.loop-outcome.count c.if-is_some.count c.outcome-item.result c.loop-outcome-test.true c.outcome-item.is (sym c.is_some.ensures ∙ w.if-is_some.true) w.count-is c.loop-outcome.invariant
  | else-is_some w ↦ passed_over c.args.outcomes.now c.loop-outcome.outcome-index c.loop-outcome.count c.if-is_some.count c.outcome-item.result c.loop-outcome-test.true c.outcome-item.is (sym c.is_some.ensures ∙ w.if-is_some.false) w.count-is c.loop-outcome.invariant
]
