use Rattle.std.proofs.Common.{◌≡◌, take}
use Rattle.listing_dump.specs.BestDots.{numbered}
use Rattle.listing_dump.proofs.best_dots.numbered.Given as goal

abbrev pub invariant-loop-place : goal.invariant-loop-place
invariant-loop-place l = l.placed.items ≡ numbered 0 (take l.place l.dots)
