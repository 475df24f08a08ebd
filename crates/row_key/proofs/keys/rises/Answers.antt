use Rattle.row_key.proofs.Once.{rises_more}
use Rattle.row_key.proofs.keys.rises.Goals as goal

pub loop-i-preserved : goal.loop-i-preserved
loop-i-preserved c = rises_more c.as_slice-pairs.result.now c.loop-i.i c.loop-i.invariant c.loop-i-test.true c.if-pairs-i.false
