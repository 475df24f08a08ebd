use Rattle.test_rows.specs.Merges.{AllBelow}
use Rattle.test_rows.proofs.drops.below.Given as goal

abbrev pub invariant-loop-qual : goal.invariant-loop-qual
invariant-loop-qual l = AllBelow l.facts l.row l.which
