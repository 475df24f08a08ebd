use Rattle.std.proofs.Common.{◌≡◌, ◌++◌, drop}
use Rattle.cell_model.proofs.events.plain_tags.Given as goal

-- what was copied, and what is left, are the pairs
abbrev pub invariant-loop-pair : goal.invariant-loop-pair
invariant-loop-pair l = l.tags.items ++ drop l.pair-index l.pairs ≡ l.pairs
