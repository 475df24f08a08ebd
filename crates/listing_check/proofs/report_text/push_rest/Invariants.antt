use Rattle.listing_check.proofs.ReportTurns.{RestAdded}
use Rattle.listing_check.proofs.report_text.push_rest.Given as goal

abbrev pub invariant-loop-at : goal.invariant-loop-at
invariant-loop-at l = RestAdded l.notes l.from l.at l.fn.text.items l.text.items
