use Rattle.test_rows.proofs.Passing.{passes_join}
use Rattle.test_rows.proofs.script.Script.finish_order.Goals as goal

pub returns-in_err-play_next : goal.returns-in_err-play_next
returns-in_err-play_next c = passes_join _ _ _ c.loop.invariant c.in_err-play_next.ensures

pub loop-preserved : goal.loop-preserved
loop-preserved c = passes_join _ _ _ c.loop.invariant c.in_ok-play_next.ensures
