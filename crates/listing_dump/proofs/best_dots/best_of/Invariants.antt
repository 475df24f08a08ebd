use Rattle.std.proofs.Common.{take}
use Rattle.listing_dump.specs.BestDots.{AreBest}
use Rattle.listing_dump.proofs.best_dots.best_of.Given as goal

abbrev pub invariant-loop-place : goal.invariant-loop-place
invariant-loop-place l = AreBest (take l.place l.dots) l.best
