use Rattle.std.proofs.Common.{sym}
use Rattle.std.proofs.lemmas.Bool.{eqb-true}
use Rattle.lerp_aggregate.proofs.Finding.{of_no_series}
use Rattle.lerp_aggregate.proofs.aggregation.aggregate.Goals as goal

pub returns-then-is_empty : goal.returns-then-is_empty
returns-then-is_empty c = of_no_series c.args.how c.args.list.now c.make.result (eqb-true _ _ (sym c.if-is_empty.ensures)) c.make.ensures
