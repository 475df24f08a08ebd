use Rattle.test_rows.proofs.Passing.{passes_join}
use Rattle.test_rows.proofs.script.Script.finish.Goals as goal

pub returns : goal.returns
returns c = passes_join _ _ _ c.finish_order.ensures c.finish_parts.ensures
