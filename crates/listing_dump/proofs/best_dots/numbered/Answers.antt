use Rattle.listing_dump.proofs.Turns.{numbered_more}
use Rattle.listing_dump.proofs.best_dots.numbered.Goals as goal

pub loop-place-preserved : goal.loop-place-preserved
loop-place-preserved c = numbered_more c.args.dots.now c.loop-place.place _ c.loop-place.placed.items c.push.new.self.items c.loop-place-test.true c.loop-place.invariant c.in_ok-push.ensures.items
