use Rattle.std.proofs.Common.{take}
use Rattle.listing_dump.proofs.Bests.{none_best}
use Rattle.listing_dump.proofs.Turns.{best_more, take_long}
use Rattle.listing_dump.proofs.best_dots.best_of.Goals as goal

pub loop-place-init : goal.loop-place-init
loop-place-init c = none_best c.new-best.result c.new-best.ensures.empty

pub loop-place-preserved : goal.loop-place-preserved
loop-place-preserved c =
    best_more c.args.dots.now c.loop-place.place _ c.keep_better.new.best c.loop-place-test.true
    (c.in_ok-keep_better.ensures (take c.loop-place.place c.args.dots.now) (take_long c.args.dots.now c.loop-place.place c.loop-place-test.true) c.loop-place.invariant)
