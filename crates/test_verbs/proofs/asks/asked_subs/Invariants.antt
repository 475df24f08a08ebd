use Rattle.std.proofs.Common.{All}
use Rattle.query_text.specs.Subs.{CanDown}
use Rattle.test_verbs.proofs.asks.asked_subs.Given as goal

abbrev pub invariant-loop-word : goal.invariant-loop-word
invariant-loop-word l = All (CanDown l.ms) l.subs.items
