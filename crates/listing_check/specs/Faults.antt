-- The faults and notes of the lines of a listing, each with the number of its line.
use Rattle.std.specs.Prelude.{◌≡◌, ◌≢◌, ℕ, ◌+◌, Bool, true, false, List, [], ◌∷◌, ◌++◌, Contains, codes, decimal, Option, None, Some, nat_eq}
use Rattle.qual_codec.specs.declared.cells.Dot.{Dot}
use Rattle.qual_codec.specs.CellDots.{HoldsDots}
use Rattle.row_key.specs.declared.tables.Table.TheVariants.{Points}
use Rattle.cell_model.specs.declared.events.Place.{Place}
use Rattle.cell_model.specs.declared.row.ListLine.{ListLine}
use Rattle.cell_model.specs.KindWidths.{Widths}
use Rattle.cell_model.specs.Rising.{place_of_line}
use Rattle.listing_check.specs.UidCells.{UidCell, uid_cell}
use Rattle.listing_check.specs.UidCells.UidCell.{Reverse}
use Rattle.listing_check.specs.Flaws.{FlawOf, has_id}
use Rattle.cell_listing.specs.ListedLines.{ListingRead, counted_in, is_above, last_after}
use Rattle.cell_listing.specs.declared.listed.OtherLine.{OtherLine}
use Rattle.cell_listing.specs.declared.listing_line.LineRead.{LineRead}
use Rattle.cell_listing.specs.declared.listing_line.LineRead.TheVariants.{Cell, Other}
use Rattle.listing_check.specs.declared.report.Flaw.{Flaw}
use Rattle.listing_check.specs.declared.report.Flaw.TheVariants.{BadLine, BadUidCell, AboveCounter, NoName, BadKey, RowNoName, BadCell}
use Rattle.listing_check.specs.declared.report.Hint.{Hint}
use Rattle.listing_check.specs.declared.report.Hint.TheVariants.{Wasted, Clash}

-- a cell that doesn't count is a bad line; one that does has its own first flaw
abbrev pub LineFlaw : Widths → List ListLine → ListLine → Bool → Option Flaw → Type 0
LineFlaw w cells c true flaw = FlawOf w cells c flaw
LineFlaw w cells c false flaw = flaw ≡ Some BadLine

-- what is told of a line, and then of others
abbrev pub told : {A : Type 0} → ℕ → Option A → List (ℕ × A) → List (ℕ × A)
told n None rest = rest
told n (Some x) rest = (n, x) ∷ rest

-- the faults of these lines, of which the first has this number and comes behind this place, among the cells that count
abbrev pub FaultsFrom : Widths → List ListLine → ℕ → Option Place → List LineRead → List (ℕ × Flaw) → Type 0
FaultsFrom w cells n last [] faults = faults ≡ []
FaultsFrom w cells n last (Other bytes ∷ lines) faults = (rest : List (ℕ × Flaw)) × (faults ≡ (n, BadLine) ∷ rest) × FaultsFrom w cells (n + 1) last lines rest
FaultsFrom w cells n last (Cell c ∷ lines) faults =
    (flaw : Option Flaw) × LineFlaw w cells c (is_above last (place_of_line c)) flaw
    × ((rest : List (ℕ × Flaw)) × (faults ≡ told n flaw rest) × FaultsFrom w cells (n + 1) (last_after (is_above last (place_of_line c)) last (place_of_line c)) lines rest)

-- the faults of a listing
abbrev pub AreFaults : ListingRead → List (ℕ × Flaw) → Type 0
AreFaults r faults = FaultsFrom r.widths (counted_in r.lines) 1 None r.lines faults

-- ---- notes

-- a name of an id whose name has another id, or none
abbrev pub IsWasted : Widths → List ListLine → Option UidCell → Type 0
IsWasted w cells (Some (Reverse kind id name)) = has_id w cells kind name id ≡ false
IsWasted w cells _ = ⊥

-- the cells of one row have two values at one offset: two cells, or one with itself
pub record Clashes (a b : ListLine) : Type 0 where
  pub row : a.row ≡ b.row
  pub before : List Dot
  pub reads_before : HoldsDots a.qual a.value before
  pub after : List Dot
  pub reads_after : HoldsDots b.qual b.value after
  pub one : Dot
  pub in_before : Contains before one
  pub other : Dot
  pub in_after : Contains after other
  pub offset : one.item.offset ≡ other.item.offset
  pub values : one.value ≢ other.value

-- a cell without a flaw, behind these, has this note
abbrev pub HasHint : Widths → List ListLine → List ListLine → ListLine → Hint → Type 0
HasHint w cells earlier l Wasted = FlawOf w cells l None × IsWasted w cells (uid_cell w l)
HasHint w cells earlier l Clash =
    FlawOf w cells l None × (l.table ≡ Points) × ((m : ListLine) × Contains (earlier ++ l ∷ []) m × (m.table ≡ Points) × FlawOf w cells m None × Clashes m l)

-- what is noted of a cell that counts
abbrev pub NoteOf : Widths → List ListLine → List ListLine → ListLine → Option Hint → Type 0
NoteOf w cells earlier l (Some hint) = HasHint w cells earlier l hint
NoteOf w cells earlier l None = (hint : Hint) → HasHint w cells earlier l hint → ⊥

abbrev pub LineNote : Widths → List ListLine → List ListLine → ListLine → Bool → Option Hint → Type 0
LineNote w cells earlier c true note = NoteOf w cells earlier c note
LineNote w cells earlier c false note = note ≡ None

abbrev pub earlier_after : Bool → List ListLine → ListLine → List ListLine
earlier_after true earlier c = earlier ++ c ∷ []
earlier_after false earlier c = earlier

-- the notes of these lines, with the cells that counted before them
abbrev pub NotesFrom : Widths → List ListLine → ℕ → List ListLine → Option Place → List LineRead → List (ℕ × Hint) → Type 0
NotesFrom w cells n earlier last [] notes = notes ≡ []
NotesFrom w cells n earlier last (Other bytes ∷ lines) notes = NotesFrom w cells (n + 1) earlier last lines notes
NotesFrom w cells n earlier last (Cell c ∷ lines) notes =
    (note : Option Hint) × LineNote w cells earlier c (is_above last (place_of_line c)) note
    × ((rest : List (ℕ × Hint)) × (notes ≡ told n note rest)
    × NotesFrom w cells (n + 1) (earlier_after (is_above last (place_of_line c)) earlier c) (last_after (is_above last (place_of_line c)) last (place_of_line c)) lines rest)

abbrev pub AreNotes : ListingRead → List (ℕ × Hint) → Type 0
AreNotes r notes = NotesFrom r.widths (counted_in r.lines) 1 [] None r.lines notes

-- ---- the report

abbrev pub flaw_text : Flaw → List ℕ
flaw_text BadLine = codes "bad line"
flaw_text BadUidCell = codes "bad uid cell"
flaw_text AboveCounter = codes "id above counter"
flaw_text NoName = codes "id without name"
flaw_text BadKey = codes "bad key"
flaw_text RowNoName = codes "row id without name"
flaw_text BadCell = codes "bad cell"

abbrev pub hint_text : Hint → List ℕ
hint_text Wasted = codes "wasted id"
hint_text Clash = codes "clash"

abbrev pub noted_line : ℕ → List ℕ → List ℕ
noted_line n text = codes "line " ++ decimal n ++ codes ": " ++ text ++ codes "\n"

-- ---- one line at a time

-- the next other line has this number
abbrev pub is_next : ℕ → Option OtherLine → Bool
is_next n None = false
is_next n (Some o) = nat_eq o.number n

-- the fault of a line, if it has one
abbrev pub FaultOf : Widths → List ListLine → Bool → LineRead → Option Flaw → Type 0
FaultOf w cells b (Other bytes) flaw = flaw ≡ Some BadLine
FaultOf w cells b (Cell c) flaw = LineFlaw w cells c b flaw
