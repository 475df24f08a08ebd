use Rattle.std.proofs.Common.{◌≡◌, ◌++◌, take}
use Rattle.std.specs.Prelude.{filter, map}
use Rattle.listing_dump.specs.declared.best_dots.PlacedDot.{PlacedDot}
use Rattle.listing_dump.specs.BestDots.{is_best}
use Rattle.listing_dump.proofs.best_dots.push_best.Given as goal

abbrev pub invariant-loop-at : goal.invariant-loop-at
invariant-loop-at l = l.dots.items ≡ l.fn.dots.items ++ map (λ (p : PlacedDot). p.dot) (filter (is_best l.best) (take l.at l.placed))
