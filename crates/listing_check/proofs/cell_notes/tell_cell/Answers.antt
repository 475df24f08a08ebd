use Rattle.std.proofs.Common.{rules}
use Rattle.listing_check.proofs.cell_notes.tell_cell.Goals as goal

pub returns-clause-told : goal.returns-clause-told
returns-clause-told c = record {
  cell = c.index-cells-at.result;
  is = record { within = search rules; is = search rules };
  flaw = c.in_ok-flaw.flaw;
  flaw_is = c.in_ok-flaw.ensures.flaw;
  faults_are = search rules;
  note = c.in_ok-note.note;
  note_is = search rules;
  notes_are = search rules;
}
