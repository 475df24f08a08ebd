-- A listing has no fault exactly where all its lines tell cells that rise and none has a flaw.
use Rattle.std.proofs.Common.{◌≡◌, inl, inr, ℕ, ◌+◌, Bool, true, false, cond, List, [], ◌∷◌, refl, sym, ap, subst, ◌∙◌, arith}
use Rattle.std.specs.Prelude.{Option, None, Some, Contains, map}
use Rattle.std.specs.declared.cmp.Ordering.TheVariants.{Less}
use Rattle.std.specs.Ordering.{is_lt}
use Rattle.list_lemmas.proofs.BoolTests.{less_if, not_Some}
use Rattle.list_lemmas.proofs.ListMembers.{here, there, split, not_in, pairs_in, pairs_tail}
use Rattle.list_lemmas.proofs.ListParts.{pairs_cons}
use Rattle.cell_model.specs.declared.row.ListLine.{ListLine}
use Rattle.cell_model.specs.declared.events.Place.{Place}
use Rattle.cell_model.specs.PlaceOrder.{place_cmp}
use Rattle.cell_model.specs.Rising.{LinesRise, place_of_line}
use Rattle.cell_model.specs.KindWidths.{Widths}
use Rattle.cell_listing.proofs.CallerLemmas.{above_trans}
use Rattle.cell_model.specs.Sound.{IsBase}
use Rattle.cell_listing.specs.ListedLines.{ListingRead, counted, counted_in, is_above, last_after, lines_of_cells}
use Rattle.listing_check.specs.Flaws.{FlawOf, NoFlaw}
use Rattle.listing_check.specs.Faults.{AreFaults, FaultsFrom, LineFlaw, told}
use Rattle.listing_check.specs.Laws.{IsSoundListing, NoFaultIsSound, store_in}
use Rattle.cell_listing.specs.declared.listing_line.LineRead.{LineRead}
use Rattle.cell_listing.specs.declared.listing_line.LineRead.TheVariants.{Cell, Other}
use Rattle.listing_check.specs.declared.report.Flaw.{Flaw}
use Rattle.listing_check.specs.declared.report.Flaw.TheVariants.{BadLine}
use Rattle.listing_check.proofs.SoundCells.{base_flawless, flawless_base}

abbrev Before : ListLine → ListLine → Type 0
Before a b = place_cmp (place_of_line a) (place_of_line b) ≡ Less

no_member : {A : Type 0} (x : A) (xs : List A) → [] ≡ x ∷ xs → ⊥
no_member x xs e = cc

-- lines without a fault behind a place, among all cells that count
record Walked (w : Widths) (cells : List ListLine) (last : Option Place) (lines : List LineRead) : Type 0 where
  own : List ListLine
  lines_are : lines ≡ map (λ c. Cell c) own
  counted_is : counted last lines ≡ own
  rising : LinesRise own
  above : (l : ListLine) → Contains own l → is_above last (place_of_line l) ≡ true
  free : (l : ListLine) → Contains own l → FlawOf w cells l None

no_pairs : LinesRise []
no_pairs = λ i j d lt within. absurd (omega (arith, within))

module _ (w : Widths) (cells : List ListLine) where
  with_cell : (last : Option Place) (c : ListLine) (lines : List LineRead) → is_above last (place_of_line c) ≡ true → FlawOf w cells c None → Walked w cells (Some (place_of_line c)) lines → Walked w cells last (Cell c ∷ lines)
  with_cell last c lines up free k = record {
    own = c ∷ k.own;
    lines_are = ap (λ (ls : List LineRead). Cell c ∷ ls) k.lines_are;
    counted_is = ap (λ b. cond b (c ∷ counted (Some (place_of_line c)) lines) (counted last lines)) up ∙ ap (λ (ls : List ListLine). c ∷ ls) k.counted_is;
    rising = pairs_cons Before c k.own (λ l i. less_if _ (k.above l i)) k.rising;
    above = λ l i. elim (split c l k.own i) [
      | inl same ↦ ap (λ (x : ListLine). is_above last (place_of_line x)) (sym same) ∙ up
      | inr later ↦ above_trans last (place_of_line c) (place_of_line l) up (less_if _ (k.above l later))
    ];
    free = λ l i. elim (split c l k.own i) [ inl same ↦ subst (λ (x : ListLine). FlawOf w cells x None) same free | inr later ↦ k.free l later ];
  }

  no_fault_told : (n : ℕ) (flaw : Option Flaw) (rest : List (ℕ × Flaw)) → [] ≡ told n flaw rest → (flaw ≡ None) × (rest ≡ [])
  no_fault_told n None rest e = (refl, sym e)
  no_fault_told n (Some f) rest e = absurd (no_member (n, f) rest e)

  counts : (c : ListLine) (b : Bool) → LineFlaw w cells c b None → (b ≡ true) × FlawOf w cells c None
  counts c true f = (refl, f)
  counts c false f = absurd (not_Some BadLine (sym f))

  walked : (n : ℕ) (last : Option Place) (lines : List LineRead) → FaultsFrom w cells n last lines [] → Walked w cells last lines
  walked n last [] e = record { own = []; lines_are = refl; counted_is = refl; rising = no_pairs; above = λ l i. absurd (not_in l i); free = λ l i. absurd (not_in l i) }
  walked n last (Other bytes ∷ lines) e = absurd (no_member (n, BadLine) e.0 e.1)
  walked n last (Cell c ∷ lines) e =
      let none = no_fault_told n e.0 e.2.0 e.2.1 in
      let here = counts c (is_above last (place_of_line c)) (subst (λ (f : Option Flaw). LineFlaw w cells c (is_above last (place_of_line c)) f) none.0 e.1) in
      let rest : FaultsFrom w cells (n + 1) (last_after (is_above last (place_of_line c)) last (place_of_line c)) lines [] = subst (FaultsFrom w cells (n + 1) (last_after (is_above last (place_of_line c)) last (place_of_line c)) lines) none.1 e.2.2 in
      with_cell last c lines here.0 here.1 (walked (n + 1) (Some (place_of_line c)) lines (subst (λ b. FaultsFrom w cells (n + 1) (last_after b last (place_of_line c)) lines []) here.0 rest))

  -- and back

  faultless : (n : ℕ) (last : Option Place) (own : List ListLine) → LinesRise own → ((l : ListLine) → Contains own l → is_above last (place_of_line l) ≡ true) → ((l : ListLine) → Contains own l → FlawOf w cells l None)
      → FaultsFrom w cells n last (map (λ c. Cell c) own) []
  faultless n last [] up above free = refl
  faultless n last (c ∷ own) up above free =
      let first = above c (here c own) in
      let tail = pairs_tail Before c own up in
      let rest = faultless (n + 1) (Some (place_of_line c)) own tail (λ l i. ap is_lt (pairs_in Before c l own up i)) (λ l i. free l (there c l own i)) in
      (None, subst (λ b. LineFlaw w cells c b None) (sym first) (free c (here c own)), ([], refl, subst (λ b. FaultsFrom w cells (n + 1) (last_after b last (place_of_line c)) (map (λ c. Cell c) own) []) (sym first) rest))

pub counted_all : (last : Option Place) (own : List ListLine) → LinesRise own → ((l : ListLine) → Contains own l → is_above last (place_of_line l) ≡ true) → counted last (map (λ c. Cell c) own) ≡ own
counted_all last [] up above = refl
counted_all last (c ∷ own) up above =
    let rest = counted_all (Some (place_of_line c)) own (pairs_tail Before c own up) (λ l i. ap is_lt (pairs_in Before c l own up i)) in
    ap (λ b. cond b (c ∷ counted (Some (place_of_line c)) (map (λ c. Cell c) own)) (counted last (map (λ c. Cell c) own))) (above c (here c own)) ∙ ap (λ (ls : List ListLine). c ∷ ls) rest

-- without a fault the cells that count are all lines, and their store is a base
pub sound_cells : (r : ListingRead) → AreFaults r [] → (r.lines ≡ lines_of_cells (counted_in r.lines)) × IsBase (store_in r.widths (counted_in r.lines))
sound_cells r e =
    let k = walked r.widths (counted None r.lines) 1 None r.lines e in
    let none : NoFlaw r.widths k.own = subst (λ (cs : List ListLine). (l : ListLine) → Contains k.own l → FlawOf r.widths cs l None) k.counted_is k.free in
    let back = sym k.counted_is in
    (k.lines_are ∙ ap lines_of_cells back, subst (λ (cs : List ListLine). IsBase (store_in r.widths cs)) back (flawless_base r.widths k.own none))

pub no_fault_is_sound : NoFaultIsSound
no_fault_is_sound r = (sound, back)
  where
    sound : AreFaults r [] → IsSoundListing r
    sound e =
        let k = walked r.widths (counted None r.lines) 1 None r.lines e in
        let none : NoFlaw r.widths k.own = subst (λ (cs : List ListLine). (l : ListLine) → Contains k.own l → FlawOf r.widths cs l None) k.counted_is k.free in
        record { cells = k.own; lines_are = k.lines_are; rising = k.rising; base = flawless_base r.widths k.own none }

    back : IsSoundListing r → AreFaults r []
    back k =
        let none = base_flawless r.widths k.cells k.rising k.base in
        let same : counted None r.lines ≡ k.cells = ap (counted None) k.lines_are ∙ counted_all None k.cells k.rising (λ l i. refl) in
        subst (λ (p : List ListLine × List LineRead). FaultsFrom r.widths p.0 1 None p.1 []) (λ i. (sym same i, sym k.lines_are i)) (faultless r.widths k.cells 1 None k.cells k.rising (λ l i. refl) none)
