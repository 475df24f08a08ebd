use Rattle.std.proofs.Common.{◌≡◌, ◌-◌, List}
use Rattle.cell_listing.specs.ListedLines.{counted_in, others_in}
use Rattle.cell_listing.specs.declared.listing_line.LineRead.{LineRead}
use Rattle.listing_check.specs.RowFlaws.{IsKnown}
use Rattle.listing_check.specs.RowNotes.{IsRowKept}
use Rattle.listing_check.proofs.LineTurns.{AreTold}
use Rattle.listing_check.proofs.NoteTurns.{AreNoted}
use Rattle.listing_check.proofs.line_faults.told_among.Given as goal

abbrev pub invariant-loop-done : goal.invariant-loop-done
invariant-loop-done l = record {
  told : (lines : List LineRead) → l.cells ≡ counted_in lines → l.others ≡ others_in lines → AreTold l.widths lines l.cells l.others l.done l.next l.faults.items;
  noted : (lines : List LineRead) → l.cells ≡ counted_in lines → l.others ≡ others_in lines → AreNoted l.widths lines l.cells l.others l.done l.next l.notes.items;
  known : IsKnown l.widths l.cells l.known;
  kept : IsRowKept l.widths l.cells (l.done - l.next) l.values;
}
