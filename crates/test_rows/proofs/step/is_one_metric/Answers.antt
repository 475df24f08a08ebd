use Rattle.test_rows.proofs.Holding.{same_metric}
use Rattle.test_rows.proofs.step.is_one_metric.Goals as goal

pub returns-then-len-to : goal.returns-then-len-to
returns-then-len-to c = λ yes. same_metric c.args.widths c.args.from.now c.args.to.now c.eq.result c.eq.ensures c.if-len-to.true.0 yes
