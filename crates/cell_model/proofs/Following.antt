-- Lines that rise, and a place above the last of them.
use Rattle.std.proofs.Common.{◌≡◌, ◌⊎◌, inl, inr, ⊎_elim, ℕ, ◌-◌, ◌<◌, ◌≤◌, Bool, true, false, List, [], ◌∷◌, ◌++◌, length, get_or, refl, sym, ap, subst, ◌∙◌, arith}
use Rattle.std.specs.Prelude.{None, Some}
use Rattle.std.specs.List.{slice_get}
use Rattle.std.specs.declared.cmp.Ordering.{Ordering}
use Rattle.std.specs.declared.cmp.Ordering.TheVariants.{Less, Equal, Greater}
use Rattle.std.specs.Ordering.{is_lt}
use Rattle.std.proofs.lemmas.Bool.{cases_lt}
use Rattle.std.proofs.lemmas.List.Quantifiers.{all_pairs_push}
use Rattle.std.proofs.lemmas.List.Sums.{AllPass-from_list_all, list_all-from_AllPass}
use Rattle.std.proofs.lemmas.List.Folds.{list_all_at}
use Rattle.std.proofs.lemmas.Option.{get_or_from_slice_get, slice_get_cases}
use Rattle.cell_model.specs.declared.row.ListLine.{ListLine}
use Rattle.cell_model.specs.declared.events.Place.{Place}
use Rattle.cell_model.specs.PlaceOrder.{place_cmp}
use Rattle.cell_model.specs.Rising.{LinesRise, is_above, place_of_line}
use Rattle.cell_model.proofs.Stores.{places_total}

less_from_is_lt : (o : Ordering) → is_lt o ≡ true → o ≡ Less
less_from_is_lt Less e = refl
less_from_is_lt Equal e = cc
less_from_is_lt Greater e = cc

abbrev is_before : Place → ListLine → Bool
is_before p m = is_lt (place_cmp (place_of_line m) p)

-- behind the last line of a list that has one
within : (lines : List ListLine) (last : ListLine) → slice_get lines (length lines - 1) ≡ Some last → length lines - 1 < length lines
within lines last e = at (slice_get_cases lines (length lines - 1)).1
  where
    at : ((x : ListLine) × (length lines - 1 < length lines) × (slice_get lines (length lines - 1) ≡ Some x) × (get_or lines (length lines - 1) x ≡ x)) ⊎ ((length lines ≤ length lines - 1) × (slice_get lines (length lines - 1) ≡ None)) → length lines - 1 < length lines
    at (inl found) = found.1
    at (inr none) = let n = none.1 in cc

pub above_last : (lines : List ListLine) (last : ListLine) (p : Place) → LinesRise lines → slice_get lines (length lines - 1) ≡ Some last → is_lt (place_cmp (place_of_line last) p) ≡ is_above lines p
above_last lines last p rise e = at (is_before p last) refl
  where
    inside : length lines - 1 < length lines
    inside = within lines last e

    is_last : (d : ListLine) → get_or lines (length lines - 1) d ≡ last
    is_last d = get_or_from_slice_get lines (length lines - 1) last d e

    each : is_before p last ≡ true → (k : ℕ) (d : ListLine) → k < length lines → is_before p (get_or lines k d) ≡ true
    each below k d l = ⊎_elim
        (λ low.
        let first : place_cmp (place_of_line (get_or lines k d)) (place_of_line (get_or lines (length lines - 1) d)) ≡ Less = rise k (length lines - 1) d low inside in
        let step : place_cmp (place_of_line (get_or lines k d)) (place_of_line last) ≡ Less = subst (λ x. place_cmp (place_of_line (get_or lines k d)) (place_of_line x) ≡ Less) (is_last d) first in
        ap is_lt (places_total.trans (place_of_line (get_or lines k d)) (place_of_line last) p step (less_from_is_lt (place_cmp (place_of_line last) p) below)))
        (λ high. let same : k ≡ length lines - 1 = omega (arith, high, l, inside) in ap (λ n. is_before p (get_or lines n d)) same ∙ ap (is_before p) (is_last d) ∙ below)
        (cases_lt k (length lines - 1))

    at : (b : Bool) → is_before p last ≡ b → is_before p last ≡ is_above lines p
    at true e = e ∙ sym (list_all-from_AllPass (is_before p) lines (each e))
    at false e = e ∙ sym (list_all_at (is_before p) lines (length lines - 1) last inside (ap (is_before p) (is_last last) ∙ e))

-- a line above each is added behind them
pub still_rise : (lines : List ListLine) (l : ListLine) → LinesRise lines → is_above lines (place_of_line l) ≡ true → LinesRise (lines ++ l ∷ [])
still_rise lines l rise above =
    all_pairs_push (λ a b. place_cmp (place_of_line a) (place_of_line b) ≡ Less) lines l rise
    (λ k d inside. less_from_is_lt (place_cmp (place_of_line (get_or lines k d)) (place_of_line l)) (AllPass-from_list_all (is_before (place_of_line l)) lines above k d inside))
