use Rattle.metric_scan.proofs.Jumps.{before_more}
use Rattle.metric_scan.proofs.key_jump.place_of.Goals as goal

pub loop-i-preserved : goal.loop-i-preserved
loop-i-preserved c = before_more c.args.pairs.now c.loop-i.i c.args.id c.loop-i-test.true c.loop-i.invariant c.if-id-pairs.false
