use Rattle.test_verbs.proofs.Known.{turned_widths}
use Rattle.test_verbs.proofs.calls.scan.Goals as goal

pub loop-preserved : goal.loop-preserved
loop-preserved g c = turned_widths c.loop.scan _ _ c.turn.result _ c.turn.ensures.left c.turn.ensures.made c.loop.invariant
