use Rattle.listing_fix.proofs.CounterWrites.{IsMost}
use Rattle.listing_fix.proofs.counters.greatest_in.Given as goal

abbrev pub invariant-loop-at : goal.invariant-loop-at
invariant-loop-at l = IsMost l.widths l.kind l.cells l.at l.most
