-- What a binary search finds among cells that rise.
use Rattle.std.proofs.Common.{◌≡◌, ◌⊎◌, inl, inr, ℕ, ◌+◌, ◌<◌, ◌≤◌, Bool, true, false, cond, List, [], ◌∷◌, length, get_or, refl, sym, ap, ◌∙◌, arith}
use Rattle.std.specs.Prelude.{None, Some, option_map, map, Contains}
use Rattle.std.specs.List.{AllWithin}
use Rattle.std.specs.List.Sorted.{IsNonDecreasingBy}
use Rattle.std.specs.Ordering.{eq_by_cmp, is_lt, ordering_index, ordering_reverse}
use Rattle.std.specs.declared.cmp.Ordering.{Ordering}
use Rattle.std.specs.declared.cmp.Ordering.TheVariants.{Less, Equal, Greater}
use Rattle.std.specs.FinMap.{find}
use Rattle.std.proofs.lemmas.Bool.{cases_lt}
use Rattle.std.proofs.lemmas.List.Sorted.{searchable_from_sorted}
use Rattle.list_lemmas.proofs.BoolTests.{is_equal}
use Rattle.list_lemmas.proofs.ListMembers.{here, there}
use Rattle.cell_model.specs.declared.row.Row.{Row}
use Rattle.cell_model.specs.declared.row.ListLine.{ListLine}
use Rattle.cell_model.specs.declared.events.Place.{Place}
use Rattle.cell_model.specs.declared.events.Content.{Content}
use Rattle.cell_model.specs.PlaceOrder.{place_cmp}
use Rattle.cell_model.specs.Store.{place_of}
use Rattle.cell_model.specs.Rising.{LinesRise, place_of_line}
use Rattle.cell_model.specs.Listed.{entry_of_line}
use Rattle.cell_model.proofs.CallerLemmas.{places_total, exact_places}
use Rattle.listing_check.specs.Flaws.{value_in}
use Rattle.listing_check.proofs.Standing.{rising_find}

not_back : (p q : Place) → place_cmp p q ≡ Less → is_lt (place_cmp q p) ≡ false
not_back p q lt = ap is_lt (places_total.antisymm q p ∙ ap ordering_reverse lt)

pub cells_searchable : (p : Place) (cells : List ListLine) → LinesRise cells → IsNonDecreasingBy (λ c. ordering_index (place_cmp (place_of_line c) p)) cells
cells_searchable p cells up =
    searchable_from_sorted places_total (λ (c : ListLine). place_of_line c) cells p (λ i d low lt.
    not_back (place_of_line (get_or cells i d)) (place_of_line (get_or cells (i + 1) d)) (up i (i + 1) d (omega arith) lt))

-- the cell that was found has the value that stands there
pub value_found : (cells : List ListLine) (row : Row) (qual : List ℕ) (i : ℕ) (l : ListLine) (value : List ℕ) → LinesRise cells → i < length cells
    → ((d : ListLine) → place_cmp (place_of_line (get_or cells i d)) (place_of row qual) ≡ Equal) → l ≡ get_or cells i l → value ≡ l.value → value_in cells row qual ≡ Some value
value_found cells row qual i l value up lt tied is same =
    let at : place_of_line l ≡ place_of row qual = ap place_of_line is ∙ exact_places (place_of_line (get_or cells i l)) (place_of row qual) (tied l) in
    ap (λ (p : Place). option_map (λ (c : Content). c.value) (find place_cmp p (map entry_of_line cells))) (sym at)
    ∙ ap (option_map (λ (c : Content). c.value)) (rising_find cells l up (i, lt, sym is)) ∙ ap Some (sym same)

pub none_found : (p : Place) (cells : List ListLine) → ((l : ListLine) → Contains cells l → place_cmp (place_of_line l) p ≡ Equal → ⊥) → find place_cmp p (map entry_of_line cells) ≡ None
none_found p [] differ = refl
none_found p (l ∷ cells) differ =
    ap (λ b. cond b (Some (entry_of_line l).1) (find place_cmp p (map entry_of_line cells))) (other (eq_by_cmp place_cmp p (place_of_line l)) refl)
    ∙ none_found p cells (λ m c. differ m (there l m cells c))
  where
    other : (b : Bool) → eq_by_cmp place_cmp p (place_of_line l) ≡ b → b ≡ false
    other true e = absurd (differ l (here l cells) (places_total.antisymm (place_of_line l) p ∙ ap ordering_reverse (is_equal _ e)))
    other false e = refl

not_equal : (o r : Ordering) → o ≡ r → (r ≡ Equal → ⊥) → o ≡ Equal → ⊥
not_equal o r e ne is = ne (sym e ∙ is)

less_no : Less ≡ Equal → ⊥
less_no e = cc

greater_no : Greater ≡ Equal → ⊥
greater_no e = cc

pub value_absent : (cells : List ListLine) (row : Row) (qual : List ℕ) (i : ℕ)
    → AllWithin (λ c. place_cmp (place_of_line c) (place_of row qual) ≡ Less) cells 0 i → AllWithin (λ c. place_cmp (place_of_line c) (place_of row qual) ≡ Greater) cells i (length cells)
    → value_in cells row qual ≡ None
value_absent cells row qual i before behind = ap (option_map (λ (c : Content). c.value)) (none_found (place_of row qual) cells each)
  where
    each : (l : ListLine) → Contains cells l → place_cmp (place_of_line l) (place_of row qual) ≡ Equal → ⊥
    each l c is = at (cases_lt c.0 i)
      where
        there : place_cmp (place_of_line (get_or cells c.0 l)) (place_of row qual) ≡ Equal
        there = ap (λ (m : ListLine). place_cmp (place_of_line m) (place_of row qual)) c.2 ∙ is

        at : (c.0 < i) ⊎ (i ≤ c.0) → ⊥
        at (inl low) = not_equal _ Less (before c.0 l (omega arith) low) less_no there
        at (inr high) = not_equal _ Greater (behind c.0 l high c.1) greater_no there
