-- Of a listing one thing is told.
use Rattle.std.proofs.Common.{◌≡◌, inl, inr, ℕ, ◌+◌, Bool, true, false, List, [], ◌∷◌, ◌++◌, length, refl, sym, ap, subst, ◌∙◌}
use Rattle.std.specs.Prelude.{Option, None, Some}
use Rattle.row_key.specs.declared.tables.Table.{Table}
use Rattle.row_key.specs.declared.tables.Table.TheVariants.{Points}
use Rattle.cell_model.specs.KindWidths.{Widths}
use Rattle.cell_model.specs.Counts.{lines_of}
use Rattle.cell_model.specs.Rising.{place_of_line}
use Rattle.cell_model.specs.declared.events.Place.{Place}
use Rattle.cell_model.specs.declared.row.ListLine.{ListLine}
use Rattle.cell_listing.specs.Grammar.{cells_text}
use Rattle.cell_listing.specs.ListedLines.{ListingRead, counted_in, is_above, last_after}
use Rattle.cell_listing.specs.declared.listing_line.LineRead.{LineRead}
use Rattle.cell_listing.specs.declared.listing_line.LineRead.TheVariants.{Cell, Other}
use Rattle.listing_check.specs.Faults.{AreFaults, HasHint, IsWasted, LineNote, NoteOf, NotesFrom, earlier_after, told}
use Rattle.listing_check.specs.ReportText.{fault_line, report_lines, verdict}
use Rattle.listing_check.specs.UidCells.{uid_in}
use Rattle.listing_check.specs.declared.report.Flaw.{Flaw}
use Rattle.listing_check.specs.declared.report.Hint.{Hint}
use Rattle.listing_check.specs.declared.report.Hint.TheVariants.{Wasted, Clash}
use Rattle.listing_check.proofs.CallerLemmas.{faults_once, flaw_once}
use Rattle.listing_fix.specs.Fixes.{Sifted, ids_mended, is_points, left_with}
use Rattle.listing_dump.specs.Dumps.{AreDumped, PlacedPoint, dump_text}
use Rattle.listing_job.specs.ListingJobs.{Checked, Dumped, Fixed, Told, has_some, store_read}

-- ---- notes

-- a cell of points is no name of an id
not_wasted : (w : Widths) (cells : List ListLine) (t : Table) (row qual value : List ℕ) → t ≡ Points → IsWasted w cells (uid_in w t row qual value) → ⊥
not_wasted w cells t row qual value is h = subst (λ (x : Table). IsWasted w cells (uid_in w x row qual value)) is h

hint_once : (w : Widths) (cells earlier : List ListLine) (l : ListLine) (a b : Hint) → HasHint w cells earlier l a → HasHint w cells earlier l b → a ≡ b
hint_once w cells earlier l Wasted Wasted x y = refl
hint_once w cells earlier l Clash Clash x y = refl
hint_once w cells earlier l Wasted Clash x y = absurd (not_wasted w cells l.table l.row l.qual l.value y.1 x.1)
hint_once w cells earlier l Clash Wasted x y = absurd (not_wasted w cells l.table l.row l.qual l.value x.1 y.1)

note_once : (w : Widths) (cells earlier : List ListLine) (l : ListLine) (a b : Option Hint) → NoteOf w cells earlier l a → NoteOf w cells earlier l b → a ≡ b
note_once w cells earlier l None None x y = refl
note_once w cells earlier l (Some a) None x y = absurd (y a x)
note_once w cells earlier l None (Some b) x y = absurd (x b y)
note_once w cells earlier l (Some a) (Some b) x y = ap Some (hint_once w cells earlier l a b x y)

line_note_once : (w : Widths) (cells earlier : List ListLine) (l : ListLine) (counts : Bool) (a b : Option Hint) → LineNote w cells earlier l counts a → LineNote w cells earlier l counts b → a ≡ b
line_note_once w cells earlier l true a b x y = note_once w cells earlier l a b x y
line_note_once w cells earlier l false a b x y = x ∙ sym y

notes_once : (w : Widths) (cells : List ListLine) (n : ℕ) (earlier : List ListLine) (last : Option Place) (lines : List LineRead) (a b : List (ℕ × Hint)) → NotesFrom w cells n earlier last lines a → NotesFrom w cells n earlier last lines b → a ≡ b
notes_once w cells n earlier last [] a b x y = x ∙ sym y
notes_once w cells n earlier last (Other bytes ∷ lines) a b x y = notes_once w cells (n + 1) earlier last lines a b x y
notes_once w cells n earlier last (Cell c ∷ lines) a b x y =
    let counts = is_above last (place_of_line c) in
    let note = line_note_once w cells earlier c counts x.0 y.0 x.1 y.1 in
    let rest = notes_once w cells (n + 1) (earlier_after counts earlier c) (last_after counts last (place_of_line c)) lines x.2.0 y.2.0 x.2.2 y.2.2 in
    x.2.1 ∙ (λ i. told n (note i) (rest i)) ∙ sym y.2.1

-- ---- `fsck`

faults_of : (read : ListingRead) (a b : List (ℕ × Flaw)) → AreFaults read a → AreFaults read b → a ≡ b
faults_of read a b x y = faults_once read.widths (counted_in read.lines) 1 None read.lines a b x y

pub checked_once : (read : ListingRead) (a b : Told) → Checked read a → Checked read b → a ≡ b
checked_once read a b x y =
    let faults = faults_of read x.0.faults.items y.0.faults.items x.1.faults y.1.faults in
    let notes = notes_once read.widths (counted_in read.lines) 1 [] None read.lines x.0.notes.items y.0.notes.items x.1.notes y.1.notes in
    x.2 ∙ (λ i. record { refused = has_some (faults i); text = report_lines (faults i) (notes i) ++ verdict (length (faults i)) }) ∙ sym y.2

-- ---- `fix`

sifted_once : (w : Widths) (cells from a b : List ListLine) → Sifted w cells from a → Sifted w cells from b → a ≡ b
sifted_once w cells [] a b x y = x ∙ sym y
sifted_once w cells (l ∷ rest) a b x y =
    let flaw = flaw_once w cells l x.0 y.0 x.1 y.1 in
    let more = sifted_once w cells rest x.2.0 y.2.0 x.2.2 y.2.2 in
    x.2.1 ∙ (λ i. left_with (is_points l.table) (flaw i) l (more i)) ∙ sym y.2.1

pub fixed_once : (read : ListingRead) (a b : Told) → Fixed read a → Fixed read b → a ≡ b
fixed_once read a b x y =
    let mended = lines_of (ids_mended read) in
    let cells = sifted_once read.widths mended mended x.0 y.0 x.1 y.1 in
    x.2 ∙ (λ i. record { refused = false; text = cells_text (cells i) }) ∙ sym y.2

-- ---- `dump`

abbrev first_or : ℕ × Flaw → List (ℕ × Flaw) → ℕ × Flaw
first_or d [] = d
first_or d (f ∷ fs) = f

pub fault_once : (read : ListingRead) (fault : ℕ × Flaw) (faults : List (ℕ × Flaw)) → AreFaults read (fault ∷ faults) → (told : Told) → Dumped read told → told ≡ record { refused = true; text = fault_line fault }
fault_once read fault faults are what (inl d) =
    let same = ap (first_or fault) (faults_of read (d.0 ∷ d.1) (fault ∷ faults) d.2 are) in
    d.3 ∙ ap (λ (f : ℕ × Flaw). record { refused = true; text = fault_line f }) same
fault_once read fault faults are what (inr d) = let same : [] ≡ fault ∷ faults = faults_of read [] (fault ∷ faults) d.0 are in absurd cc

-- of a listing without a fault its points are told
pub points_told : (read : ListingRead) → AreFaults read [] → (told : Told) → Dumped read told → (points : List PlacedPoint) × AreDumped (store_read read) points × (told ≡ record { refused = false; text = dump_text points })
points_told read none what (inl d) = let same : d.0 ∷ d.1 ≡ [] = faults_of read (d.0 ∷ d.1) [] d.2 none in absurd cc
points_told read none what (inr d) = d.1
