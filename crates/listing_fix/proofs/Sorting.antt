-- A stable sort by place, and then the first of each place.
use Rattle.std.proofs.Common.{◌≡◌, ◌<◌, inl, inr, Bool, true, false, cond, List, [], ◌∷◌, length, refl, sym, ap, subst, ◌∙◌, arith}
use Rattle.std.specs.Prelude.{Option, None, Some, map, filter, not, Contains, AllPairs, ◌&&◌}
use Rattle.std.specs.List.Sorted.{IsSortedBy, IsStableBy, ties}
use Rattle.std.specs.Ordering.{eq_by_cmp, is_eq, is_lt, ordering_reverse}
use Rattle.std.specs.declared.cmp.Ordering.{Ordering}
use Rattle.std.specs.declared.cmp.Ordering.TheVariants.{Less, Equal, Greater}
use Rattle.std.specs.FinMap.{find, entries, entries_sorted, get-entries, get-from_entries}
use Rattle.std.specs.FinMap.Entries.{same_entries}
use Rattle.std.specs.Cmp.{tied_itself}
use Rattle.std.proofs.lemmas.List.{length-map, get_or-map}
use Rattle.std.proofs.lemmas.List.MinMax.{ranks_by}
use Rattle.std.proofs.lemmas.List.Sorted.{sorted_far}
use Rattle.list_lemmas.proofs.BoolTests.{is_equal, less_if}
use Rattle.list_lemmas.proofs.EntryLemmas.{sorted_from_rising}
use Rattle.list_lemmas.proofs.ListCuts.{filter_alike}
use Rattle.list_lemmas.proofs.ListMembers.{here, there, split, not_in, pairs_in, pairs_tail}
use Rattle.list_lemmas.proofs.ListParts.{pairs_cons}
use Rattle.cell_model.specs.declared.row.ListLine.{ListLine}
use Rattle.cell_model.specs.declared.events.Place.{Place}
use Rattle.cell_model.specs.declared.events.Content.{Content}
use Rattle.cell_model.specs.PlaceOrder.{place_cmp}
use Rattle.cell_model.specs.Counts.{line_of, lines_of}
use Rattle.cell_model.specs.Rising.{LinesRise, place_of_line}
use Rattle.cell_model.specs.KindWidths.{Widths}
use Rattle.cell_model.specs.Listed.{entry_of_line}
use Rattle.cell_model.proofs.CallerLemmas.{places_total, exact_places}
use Rattle.cell_listing.specs.ListedLines.{is_above}
use Rattle.cell_listing.proofs.CallerLemmas.{above_trans}
use Rattle.listing_check.specs.Laws.{store_in}
use Rattle.listing_check.proofs.CallerLemmas.{none_found}
use Rattle.listing_fix.specs.Fixes.{firsts}
use Rattle.listing_fix.specs.Sorts.{SortedFirsts, is_before}

abbrev Before : ListLine → ListLine → Type 0
Before a b = place_cmp (place_of_line a) (place_of_line b) ≡ Less

-- the later one isn't before the earlier one
abbrev Up : ListLine → ListLine → Type 0
Up a b = is_before b a ≡ false

abbrev look : Place → List ListLine → Option Content
look p cells = find place_cmp p (map entry_of_line cells)

-- ---- what is taken

firsts_in : (last : Option Place) (cells : List ListLine) (l : ListLine) → Contains (firsts last cells) l → Contains cells l × (is_above last (place_of_line l) ≡ true)
firsts_in last [] l c = absurd (not_in l c)
firsts_in last (d ∷ cells) l c = at (is_above last (place_of_line d)) refl c (firsts_in (Some (place_of_line d)) cells l) (firsts_in last cells l)
  where
    at : (b : Bool) → is_above last (place_of_line d) ≡ b → Contains (cond b (d ∷ firsts (Some (place_of_line d)) cells) (firsts last cells)) l
        → (Contains (firsts (Some (place_of_line d)) cells) l → Contains cells l × (is_above (Some (place_of_line d)) (place_of_line l) ≡ true))
        → (Contains (firsts last cells) l → Contains cells l × (is_above last (place_of_line l) ≡ true)) → Contains (d ∷ cells) l × (is_above last (place_of_line l) ≡ true)
    at true e c own other = elim (split d l (firsts (Some (place_of_line d)) cells) c) [
      | inl same ↦ (subst (Contains (d ∷ cells)) same (here d cells), ap (λ (x : ListLine). is_above last (place_of_line x)) (sym same) ∙ e)
      | inr later ↦ (let w = own later in (there d l cells w.0, above_trans last (place_of_line d) (place_of_line l) e (less_if _ w.1)))
    ]
    at false e c own other = let w = other c in (there d l cells w.0, w.1)

no_pairs : LinesRise []
no_pairs = λ i j d lt within. absurd (omega (arith, within))

firsts_rise : (last : Option Place) (cells : List ListLine) → LinesRise (firsts last cells)
firsts_rise last [] = no_pairs
firsts_rise last (d ∷ cells) = at (is_above last (place_of_line d)) (firsts_rise (Some (place_of_line d)) cells) (firsts_rise last cells)
  where
    at : (b : Bool) → LinesRise (firsts (Some (place_of_line d)) cells) → LinesRise (firsts last cells) → LinesRise (cond b (d ∷ firsts (Some (place_of_line d)) cells) (firsts last cells))
    at true own other = pairs_cons Before d (firsts (Some (place_of_line d)) cells) (λ l i. less_if _ (firsts_in (Some (place_of_line d)) cells l i).1) own
    at false own other = other

-- ---- what is found is the same

abbrev NotBelow : Option Place → ListLine → Type 0
NotBelow None l = Unit {0}
NotBelow (Some q) l = is_lt (place_cmp (place_of_line l) q) ≡ false

tied : (o : Ordering) → is_lt o ≡ false → is_lt (ordering_reverse o) ≡ false → o ≡ Equal
tied Less a b = cc
tied Equal a b = refl
tied Greater a b = cc

turned : (p q : Place) → place_cmp p q ≡ ordering_reverse (place_cmp q p)
turned p q = places_total.antisymm p q

-- a place below all of these isn't found
below_all : (p : Place) (d : ListLine) (cells : List ListLine) → place_cmp (place_of_line d) p ≡ Greater → ((l : ListLine) → Contains cells l → Up d l) → look p cells ≡ None
below_all p d cells high up = none_found p cells (λ l c same. differ l (up l c) same)
  where
    low : place_cmp p (place_of_line d) ≡ Less
    low = turned p (place_of_line d) ∙ ap ordering_reverse high

    differ : (l : ListLine) → is_lt (place_cmp (place_of_line l) (place_of_line d)) ≡ false → place_cmp (place_of_line l) p ≡ Equal → ⊥
    differ l not same =
        let is : place_of_line l ≡ p = exact_places (place_of_line l) p same in
        let w : true ≡ false = sym (ap (λ (q : Place). is_lt (place_cmp q (place_of_line d))) is ∙ ap is_lt low) ∙ not in
        absurd cc

module _ (p : Place) where
  step : (last : Option Place) (d : ListLine) (cells : List ListLine) → AllPairs Up (d ∷ cells) → NotBelow last d → is_above last p ≡ true
      → (is_above (Some (place_of_line d)) p ≡ true → look p (firsts (Some (place_of_line d)) cells) ≡ look p cells) → look p (firsts last cells) ≡ look p cells
      → look p (firsts last (d ∷ cells)) ≡ look p (d ∷ cells)
  step last d cells up not above own other = at (is_above last (place_of_line d)) refl
    where
      upper : (l : ListLine) → Contains cells l → Up d l
      upper l c = pairs_in Up d l cells up c

      ahead : (o : Ordering) → place_cmp (place_of_line d) p ≡ o → (is_eq (place_cmp p (place_of_line d)) ≡ false) → look p (firsts (Some (place_of_line d)) cells) ≡ look p cells
      ahead Less e differ = own (ap is_lt e)
      ahead Equal e differ = (let w : true ≡ false = sym (ap is_eq (turned p (place_of_line d) ∙ ap ordering_reverse e)) ∙ differ in absurd cc)
      ahead Greater e differ =
          below_all p d (firsts (Some (place_of_line d)) cells) e (λ l c. upper l (firsts_in (Some (place_of_line d)) cells l c).0)
          ∙ sym (below_all p d cells e upper)

      taken : (b : Bool) → is_eq (place_cmp p (place_of_line d)) ≡ b → cond b (Some (entry_of_line d).1) (look p (firsts (Some (place_of_line d)) cells)) ≡ cond b (Some (entry_of_line d).1) (look p cells)
      taken true e = refl
      taken false e = ahead (place_cmp (place_of_line d) p) refl e

      passed : (last : Option Place) → NotBelow last d → is_above last p ≡ true → is_above last (place_of_line d) ≡ false → is_eq (place_cmp p (place_of_line d)) ≡ false
      passed None not above e = absurd cc
      passed (Some q) not above e = by (is_eq (place_cmp p (place_of_line d))) refl
        where
          same : place_of_line d ≡ q
          same = exact_places (place_of_line d) q (tied (place_cmp (place_of_line d) q) not (sym (ap is_lt (turned q (place_of_line d))) ∙ e))

          by : (b : Bool) → is_eq (place_cmp p (place_of_line d)) ≡ b → b ≡ false
          by true f =
              let at : p ≡ q = exact_places p (place_of_line d) (is_equal _ f) ∙ same in
              let w : is_lt (place_cmp q q) ≡ true = ap (λ (x : Place). is_lt (place_cmp q x)) (sym at) ∙ above in
              let t : is_lt (place_cmp q q) ≡ false = ap is_lt (tied_itself places_total q) in
              let u : true ≡ false = sym w ∙ t in
              absurd cc
          by false f = refl

      at : (b : Bool) → is_above last (place_of_line d) ≡ b → look p (cond b (d ∷ firsts (Some (place_of_line d)) cells) (firsts last cells)) ≡ look p (d ∷ cells)
      at true e = taken (is_eq (place_cmp p (place_of_line d))) refl
      at false e = other ∙ sym (ap (λ b. cond b (Some (entry_of_line d).1) (look p cells)) (passed last not above e))

  firsts_find : (last : Option Place) (cells : List ListLine) → AllPairs Up cells → ((l : ListLine) → Contains cells l → NotBelow last l) → is_above last p ≡ true → look p (firsts last cells) ≡ look p cells
  firsts_find last [] up not above = refl
  firsts_find last (d ∷ cells) up not above =
      step last d cells up (not d (here d cells)) above
      (λ e. firsts_find (Some (place_of_line d)) cells (pairs_tail Up d cells up) (λ l c. pairs_in Up d l cells up c) e)
      (firsts_find last cells (pairs_tail Up d cells up) (λ l c. not l (there d l cells c)) above)

  -- ---- ties keep their order

  ties_alike : (o r : Ordering) → r ≡ ordering_reverse o → (not (is_lt o) && not (is_lt r)) ≡ is_eq o
  ties_alike Less r e = refl
  ties_alike Equal r e = ap (λ x. not (is_lt x)) e
  ties_alike Greater r e = ap (λ x. not (is_lt x)) e

  abbrev at_place : ListLine
  at_place = record { table = p.row.table; row = p.row.bytes; qual = p.qual; value = [] }

  abbrev is_there : ListLine → Bool
  is_there l = eq_by_cmp place_cmp p (place_of_line l)

  find_there : (cells : List ListLine) → look p cells ≡ look p (filter is_there cells)
  find_there [] = refl
  find_there (d ∷ cells) = at (is_there d) refl (find_there cells)
    where
      at : (b : Bool) → is_there d ≡ b → look p cells ≡ look p (filter is_there cells) → cond b (Some (entry_of_line d).1) (look p cells) ≡ look p (cond b (d ∷ filter is_there cells) (filter is_there cells))
      at true e rest = sym (ap (λ b. cond b (Some (entry_of_line d).1) (look p (filter is_there cells))) e)
      at false e rest = rest

  stable_find : (cells sorted : List ListLine) → IsStableBy is_before cells sorted → look p sorted ≡ look p cells
  stable_find cells sorted stable =
      find_there sorted ∙ ap (look p) (alike sorted ∙ stable at_place ∙ sym (alike cells)) ∙ sym (find_there cells)
    where
      alike : (xs : List ListLine) → filter is_there xs ≡ filter (ties is_before at_place) xs
      alike xs = filter_alike is_there (ties is_before at_place) (λ l. sym (ties_alike (place_cmp p (place_of_line l)) (place_cmp (place_of_line l) p) (turned (place_of_line l) p))) xs

-- ---- so the lines are those of the store

pub same_lines : (cells : List ListLine) → map line_of (map entry_of_line cells) ≡ cells
same_lines [] = refl
same_lines (l ∷ cells) = ap (λ (ls : List ListLine). l ∷ ls) (same_lines cells)

pub rising_entries : (cells : List ListLine) → LinesRise cells → AllPairs (λ (p q : Place × Content). place_cmp p.0 q.0 ≡ Less) (map entry_of_line cells)
rising_entries cells up i j d lt within =
    let n = length-map cells entry_of_line in
    let e = line_of d in
    let inside : j < length cells = omega (arith, within, n) in
    (λ t. place_cmp (get_or-map entry_of_line cells i e d (omega (arith, lt, inside)) t).0 (get_or-map entry_of_line cells j e d inside t).0) ∙ up i j e lt inside

pub sorted_firsts : SortedFirsts
sorted_firsts w cells sorted up stable =
    ap (map line_of) (same_entries place_cmp places_total exact_places (entries (store_in w cells).cells) (map entry_of_line (firsts None sorted)) (entries_sorted (store_in w cells).cells)
    (sorted_from_rising place_cmp (map entry_of_line (firsts None sorted)) (rising_entries (firsts None sorted) (firsts_rise None sorted)))
    (λ q. sym (get-entries (store_in w cells).cells q) ∙ get-from_entries places_total (map entry_of_line cells) q ∙ sym (stable_find q cells sorted stable) ∙ sym (firsts_find q None sorted far (λ l c. tt) refl)))
    ∙ same_lines (firsts None sorted)
  where
    far : AllPairs Up sorted
    far i j d lt within = sorted_far is_before (ranks_by places_total place_of_line) sorted up i j d (omega (arith, lt)) within

-- and so is what was taken of them
pub with_firsts : (cells sorted kept : List ListLine) → IsSortedBy is_before sorted → IsStableBy is_before cells sorted → kept ≡ firsts None sorted → (w : Widths) → kept ≡ lines_of (store_in w cells)
with_firsts cells sorted kept up stable is w = is ∙ sym (sorted_firsts w cells sorted up stable)
