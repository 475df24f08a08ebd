-- The text of a report: a line for each fault and each note, in order of lines, and then the verdict.
use Rattle.std.specs.Prelude.{◌≡◌, ◌≤◌, ℕ, nat_eq, nat_lt, List, [], ◌∷◌, ◌++◌, codes, decimal, drop, length, if◌then◌else◌}
use Rattle.std.specs.List.{flat_map}
use Rattle.listing_check.specs.Faults.{flaw_text, hint_text, noted_line}
use Rattle.listing_check.specs.declared.report.Flaw.{Flaw}
use Rattle.listing_check.specs.declared.report.Hint.{Hint}
use Rattle.listing_check.specs.declared.report.Report.{Report}

abbrev pub fault_line : ℕ × Flaw → List ℕ
fault_line fault = noted_line fault.0 (flaw_text fault.1)

abbrev pub note_line : ℕ × Hint → List ℕ
note_line note = noted_line note.0 (hint_text note.1)

-- the first of these notes, up to one of this line or a later one
abbrev pub notes_before : ℕ → List (ℕ × Hint) → List (ℕ × Hint)
notes_before n [] = []
notes_before n (note ∷ notes) = if nat_lt note.0 n then note ∷ notes_before n notes else []

-- the notes behind those
abbrev pub notes_from : ℕ → List (ℕ × Hint) → List (ℕ × Hint)
notes_from n [] = []
notes_from n (note ∷ notes) = if nat_lt note.0 n then notes_from n notes else note ∷ notes

-- before each fault stand the notes of the lines before it
abbrev pub report_lines : List (ℕ × Flaw) → List (ℕ × Hint) → List ℕ
report_lines [] notes = flat_map note_line notes
report_lines (fault ∷ faults) notes = flat_map note_line (notes_before fault.0 notes) ++ (fault_line fault ++ report_lines faults (notes_from fault.0 notes))

-- sound without a fault; else unsound, and how many there are
abbrev pub verdict : ℕ → List ℕ
verdict count = if nat_eq count 0 then codes "sound\n" else codes "unsound " ++ decimal count ++ codes "\n"

abbrev pub report_text : Report → List ℕ
report_text r = report_lines r.faults.items r.notes.items ++ verdict (length r.faults.items)

-- the notes of the lines before this one were added, from one on, up to the next
pub record AddsNotes (n : ℕ) (notes : List (ℕ × Hint)) (from next : ℕ) (old new : List ℕ) : Type 0 where
  pub within : next ≤ length notes
  pub added : new ≡ old ++ flat_map note_line (notes_before n (drop from notes))
  pub left : drop next notes ≡ notes_from n (drop from notes)
