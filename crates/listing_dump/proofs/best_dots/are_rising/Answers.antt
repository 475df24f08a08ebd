use Rattle.std.proofs.Common.{refl, arith}
use Rattle.listing_dump.proofs.Turns.{rise_at}
use Rattle.listing_dump.proofs.best_dots.are_rising.Goals as goal

pub loop-dot-preserved : goal.loop-dot-preserved
loop-dot-preserved c =
    let l = c.loop-dot in
    rise_at c.args.dots.now l.dot-index _ l.least _ l.invariant c.loop-dot-test.true (omega arith) refl
