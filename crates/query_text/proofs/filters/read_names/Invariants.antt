use Rattle.std.proofs.Common.{length}
use Rattle.query_text.proofs.Parts.{NamesKept}
use Rattle.query_text.proofs.filters.read_names.Given as goal

abbrev pub invariant-loop-names : goal.invariant-loop-names
invariant-loop-names l = NamesKept l.text l.names.items l.rest

abbrev pub decreases-loop-names : goal.decreases-loop-names
decreases-loop-names l = length l.rest
