use Rattle.test_rows.proofs.Passing.{passes_join}
use Rattle.test_rows.proofs.script.Script.let_others.Goals as goal

pub returns-in_err-play_next-in-Some : goal.returns-in_err-play_next-in-Some
returns-in_err-play_next-in-Some c = passes_join _ _ _ c.loop.invariant c.in_err-play_next-in-Some.ensures

pub loop-preserved : goal.loop-preserved
loop-preserved c = passes_join _ _ _ c.loop.invariant c.in_ok-play_next-in-Some.ensures
