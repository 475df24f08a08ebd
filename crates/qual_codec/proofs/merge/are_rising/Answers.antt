use Rattle.std.proofs.Common.{refl, arith}
use Rattle.qual_codec.proofs.RisingDots.{rise_at}
use Rattle.qual_codec.proofs.merge.are_rising.Goals as goal

pub loop-dot-preserved : goal.loop-dot-preserved
loop-dot-preserved c =
    let l = c.loop-dot in
    rise_at c.args.dots.now l.dot-index _ l.least _ l.invariant c.loop-dot-test.true (omega arith) refl
