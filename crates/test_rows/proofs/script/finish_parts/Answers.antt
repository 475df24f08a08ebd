use Rattle.test_rows.proofs.Passing.{passes_join}
use Rattle.test_rows.proofs.script.finish_parts.Goals as goal

pub returns-in_err-play : goal.returns-in_err-play
returns-in_err-play c = passes_join _ _ _ c.loop-part.invariant c.in_err-play.ensures

pub loop-part-preserved : goal.loop-part-preserved
loop-part-preserved c = passes_join _ _ _ c.loop-part.invariant c.in_ok-play.ensures
