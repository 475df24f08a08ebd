use Rattle.listing_check.proofs.ReportTurns.{AreAdded}
use Rattle.listing_check.proofs.report_text.push_notes.Given as goal

abbrev pub invariant-loop-at : goal.invariant-loop-at
invariant-loop-at l = AreAdded l.number l.notes l.from l.at l.fn.text.items l.text.items
