use Rattle.listing_check.proofs.ReportTurns.{LinesAdded}
use Rattle.listing_check.proofs.report_text.push_lines.Given as goal

abbrev pub invariant-loop-at : goal.invariant-loop-at
invariant-loop-at l = LinesAdded l.faults l.notes l.at l.next l.fn.text.items l.text.items
