-- The first change: the cells that count, and behind them the other ones.
use Rattle.std.proofs.Common.{◌≡◌, ◌≢◌, ◌⊎◌, inl, inr, ℕ, ◌+◌, Bool, true, false, cond, List, [], ◌∷◌, ◌++◌, length, refl, sym, ap, ◌∙◌, arith}
use Rattle.std.specs.Prelude.{Option, None, Some, option_map, Contains}
use Rattle.std.specs.declared.cmp.Ordering.TheVariants.{Equal}
use Rattle.list_lemmas.proofs.ListCuts.{joined, nothing_behind}
use Rattle.cell_model.specs.declared.row.ListLine.{ListLine}
use Rattle.cell_model.specs.declared.events.Place.{Place}
use Rattle.cell_model.specs.declared.events.Content.{Content}
use Rattle.cell_model.specs.KindWidths.{Widths}
use Rattle.cell_model.specs.PlaceOrder.{place_cmp}
use Rattle.cell_model.specs.Counts.{lines_of}
use Rattle.cell_model.specs.Rising.{place_of_line}
use Rattle.cell_model.proofs.CallerLemmas.{exact_places, same_or_not}
use Rattle.cell_listing.specs.ListedLines.{counted, counted_in, is_above, others_from, others_in}
use Rattle.cell_listing.specs.declared.listed.OtherLine.{OtherLine}
use Rattle.cell_listing.specs.declared.listing_line.LineRead.{LineRead}
use Rattle.cell_listing.specs.declared.listing_line.LineRead.TheVariants.{Cell, Other}
use Rattle.cell_listing.proofs.CallerLemmas.{counted_above}
use Rattle.listing_check.specs.Laws.{store_in}
use Rattle.listing_check.proofs.CallerLemmas.{none_found}
use Rattle.listing_fix.specs.Fixes.{cells_among}
use Rattle.listing_fix.specs.Steps.{cell_or_none, other_cells}
use Rattle.listing_fix.proofs.Mending.{lines_rise}
use Rattle.listing_fix.proofs.Told.{first_of, same_cells, seen, seen_held, seen_here, seen_join, seen_past, seen_store}

-- ---- what is found

module _ (p : Place) where
  -- a cell that counts
  taken : (c : ListLine) (xs ys zs : List ListLine) → (p ≡ place_of_line c) ⊎ (p ≢ place_of_line c) → first_of (seen xs p) (seen ys p) ≡ seen zs p → first_of (seen (c ∷ xs) p) (seen ys p) ≡ seen (c ∷ zs) p
  taken c xs ys zs (inl same) go = ap (λ o. first_of o (seen ys p)) (seen_here c xs p same) ∙ sym (seen_here c zs p same)
  taken c xs ys zs (inr ne) go = ap (λ o. first_of o (seen ys p)) (seen_past c xs p ne) ∙ go ∙ sym (seen_past c zs p ne)

  -- one that doesn't
  left : (c : ListLine) (xs ys zs : List ListLine) → (p ≡ place_of_line c) ⊎ (p ≢ place_of_line c) → (p ≡ place_of_line c → seen xs p ≡ None) → first_of (seen xs p) (seen ys p) ≡ seen zs p → first_of (seen xs p) (seen (c ∷ ys) p) ≡ seen (c ∷ zs) p
  left c xs ys zs (inl same) none go = ap (λ o. first_of o (seen (c ∷ ys) p)) (none same) ∙ seen_here c ys p same ∙ sym (seen_here c zs p same)
  left c xs ys zs (inr ne) none go = ap (first_of (seen xs p)) (seen_past c ys p ne) ∙ go ∙ sym (seen_past c zs p ne)

  -- what isn't above the last place doesn't count later
  not_later : (last : Option Place) (lines : List LineRead) (c : ListLine) → is_above last (place_of_line c) ≡ false → p ≡ place_of_line c → seen (counted last lines) p ≡ None
  not_later last lines c low same = ap (option_map (λ (x : Content). x.value)) (none_found p (counted last lines) each)
    where
      each : (l : ListLine) → Contains (counted last lines) l → place_cmp (place_of_line l) p ≡ Equal → ⊥
      each l i tied =
          let is : place_of_line l ≡ place_of_line c = exact_places (place_of_line l) p tied ∙ same in
          let w : true ≡ false = sym (counted_above last lines l i) ∙ ap (is_above last) is ∙ low in
          absurd cc

  found : (n : ℕ) (last : Option Place) (lines : List LineRead) → first_of (seen (counted last lines) p) (seen (other_cells (others_from n last lines)) p) ≡ seen (cells_among lines) p
  found n last [] = refl
  found n last (Other bytes ∷ lines) = found (n + 1) last lines
  found n last (Cell c ∷ lines) = at (is_above last (place_of_line c)) refl (found (n + 1) (Some (place_of_line c)) lines) (found (n + 1) last lines)
    where
      at : (b : Bool) → is_above last (place_of_line c) ≡ b
          → first_of (seen (counted (Some (place_of_line c)) lines) p) (seen (other_cells (others_from (n + 1) (Some (place_of_line c)) lines)) p) ≡ seen (cells_among lines) p
          → first_of (seen (counted last lines) p) (seen (other_cells (others_from (n + 1) last lines)) p) ≡ seen (cells_among lines) p
          → first_of (seen (cond b (c ∷ counted (Some (place_of_line c)) lines) (counted last lines)) p)
          (seen (other_cells (cond b (others_from (n + 1) (Some (place_of_line c)) lines) (record { number = n; line = Cell c } ∷ others_from (n + 1) last lines))) p)
          ≡ seen (c ∷ cells_among lines) p
      at true e own other = taken c (counted (Some (place_of_line c)) lines) (other_cells (others_from (n + 1) (Some (place_of_line c)) lines)) (cells_among lines) (same_or_not p (place_of_line c)) own
      at false e own other = left c (counted last lines) (other_cells (others_from (n + 1) last lines)) (cells_among lines) (same_or_not p (place_of_line c)) (not_later last lines c e) other

-- so the lines of the store are the same
pub first : (w : Widths) (lines : List LineRead) → lines_of (store_in w (counted_in lines ++ other_cells (others_in lines))) ≡ lines_of (store_in w (cells_among lines))
first w lines =
    same_cells (lines_of (store_in w (counted_in lines ++ other_cells (others_in lines)))) (lines_of (store_in w (cells_among lines))) (lines_rise (store_in w (counted_in lines ++ other_cells (others_in lines)))) (lines_rise (store_in w (cells_among lines)))
    (λ p.
    seen_held (store_in w (counted_in lines ++ other_cells (others_in lines))) p ∙ seen_store w (counted_in lines ++ other_cells (others_in lines)) p
    ∙ seen_join (counted_in lines) (other_cells (others_in lines)) p ∙ found p 1 None lines ∙ sym (seen_store w (cells_among lines) p) ∙ sym (seen_held (store_in w (cells_among lines)) p))

-- ---- the other cells, one after the other

abbrev pub AreOthers : List OtherLine → List ListLine → List OtherLine → Type 0
AreOthers all cells rest = other_cells all ≡ cells ++ other_cells rest

pub one_other : (all : List OtherLine) (old new : List ListLine) (rest : List OtherLine) (o : OtherLine) (more : List OtherLine) → AreOthers all old rest → rest ≡ o ∷ more → new ≡ old ++ cell_or_none o.line → AreOthers all new more
one_other all old new rest o more is e push =
    is ∙ ap (λ (r : List OtherLine). old ++ other_cells r) e ∙ sym (joined old (cell_or_none o.line) (other_cells more)) ∙ ap (λ (ls : List ListLine). ls ++ other_cells more) (sym push)

pub all_others : (all : List OtherLine) (cells : List ListLine) (rest : List OtherLine) → AreOthers all cells rest → length rest ≡ 0 → cells ≡ other_cells all
all_others all cells [] is e = sym (is ∙ nothing_behind cells)
all_others all cells (o ∷ rest) is e = absurd (omega (arith, e))
