-- A report has no fault exactly where the listing is sound.
use Rattle.std.proofs.Common.{◌≡◌, ◌↔◌, ℕ, ◌+◌, true, cond, List, [], ◌∷◌, refl, sym, ap, subst, ◌∙◌}
use Rattle.std.specs.Prelude.{Option, None, Some, Contains, map}
use Rattle.std.specs.Ordering.{is_lt}
use Rattle.std.specs.declared.cmp.Ordering.TheVariants.{Less}
use Rattle.list_lemmas.proofs.ListMembers.{here, pairs_in, pairs_tail}
use Rattle.cell_model.specs.declared.row.ListLine.{ListLine}
use Rattle.cell_model.specs.declared.row.Listing.{Listing}
use Rattle.cell_model.specs.declared.events.Place.{Place}
use Rattle.cell_model.specs.PlaceOrder.{place_cmp}
use Rattle.cell_model.specs.KindWidths.{Widths}
use Rattle.cell_model.specs.Listed.{store_of}
use Rattle.cell_model.specs.Rising.{LinesRise, place_of_line}
use Rattle.cell_model.specs.Sound.{IsBase}
use Rattle.cell_listing.specs.ListedLines.{AreParts, ListingRead, counted_in, is_above, lines_of_cells, numbered, others_from, others_in}
use Rattle.cell_listing.specs.declared.listing_line.LineRead.TheVariants.{Cell}
use Rattle.listing_check.specs.Faults.{AreFaults, FaultsFrom, NotesFrom}
use Rattle.listing_check.specs.Laws.{IsSoundListing, store_in}
use Rattle.listing_check.specs.Reports.{IsReport, read_of}
use Rattle.listing_check.specs.declared.report.Flaw.{Flaw}
use Rattle.listing_check.specs.declared.report.Report.{Report}
use Rattle.listing_check.proofs.Faultless.{counted_all, no_fault_is_sound, sound_cells}
use Rattle.listing_check.proofs.OneFlaw.{faults_once}

pub sound_where : (r : ListingRead) (faults : List (ℕ × Flaw)) → AreFaults r faults → (faults ≡ []) ↔ IsSoundListing r
sound_where r faults f = (λ e. (no_fault_is_sound r).0 (subst (AreFaults r) e f), λ s. faults_once r.widths (counted_in r.lines) 1 None r.lines faults [] f ((no_fault_is_sound r).1 s))

-- ---- cells alone

no_others : (n : ℕ) (last : Option Place) (own : List ListLine) → LinesRise own → ((l : ListLine) → Contains own l → is_above last (place_of_line l) ≡ true) → others_from n last (map (λ c. Cell c) own) ≡ []
no_others n last [] up above = refl
no_others n last (c ∷ own) up above =
    ap (λ b. cond b (others_from (n + 1) (Some (place_of_line c)) (map (λ c. Cell c) own)) (numbered n (Cell c) ∷ others_from (n + 1) last (map (λ c. Cell c) own))) (above c (here c own))
    ∙ no_others (n + 1) (Some (place_of_line c)) own (pairs_tail (λ a b. place_cmp (place_of_line a) (place_of_line b) ≡ Less) c own up) (λ l i. ap is_lt (pairs_in (λ a b. place_cmp (place_of_line a) (place_of_line b) ≡ Less) c l own up i))

pub all_count : (cells : List ListLine) → LinesRise cells → cells ≡ counted_in (lines_of_cells cells)
all_count cells up = sym (counted_all None cells up (λ l i. refl))

pub none_other : (cells : List ListLine) → LinesRise cells → [] ≡ others_in (lines_of_cells cells)
none_other cells up = sym (no_others 1 None cells up (λ l i. refl))

pub cells_alone : (cells : List ListLine) → LinesRise cells → AreParts cells []
cells_alone cells up = record { lines = lines_of_cells cells; cells_are = all_count cells up; others_are = none_other cells up }

pub base_where : (l : Listing) (faults : List (ℕ × Flaw)) → LinesRise l.lines → AreFaults (read_of l) faults → (faults ≡ []) ↔ IsBase (store_of l)
base_where l faults up f = (
  λ e. subst (λ (cs : List ListLine). IsBase (store_in l.widths cs)) (sym (all_count l.lines up)) (sound_cells (read_of l) (subst (AreFaults (read_of l)) e f)).1,
  λ b. faults_once l.widths (counted_in (lines_of_cells l.lines)) 1 None (lines_of_cells l.lines) faults [] f ((no_fault_is_sound (read_of l)).1 (record { cells = l.lines; lines_are = refl; rising = up; base = b })),
)

-- what was found by parts of a listing is its report
pub report_of : (r : ListingRead) (w : Widths) (cells : List ListLine) (report : Report) → w ≡ r.widths → cells ≡ counted_in r.lines
    → FaultsFrom w cells 1 None r.lines report.faults.items → NotesFrom w cells 1 [] None r.lines report.notes.items → IsReport r report
report_of r w cells report widths_are cells_are f n = record {
  faults = subst (λ (p : Widths × List ListLine). FaultsFrom p.0 p.1 1 None r.lines report.faults.items) (λ i. (widths_are i, cells_are i)) f;
  notes = subst (λ (p : Widths × List ListLine). NotesFrom p.0 p.1 1 [] None r.lines report.notes.items) (λ i. (widths_are i, cells_are i)) n;
}
