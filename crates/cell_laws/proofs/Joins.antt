-- A store in parts is the store.
use Rattle.std.proofs.Common.{◌≡◌, ◌≢◌, ◌⊎◌, inl, inr, ℕ, zero, suc, ◌+◌, ◌<◌, Bool, true, false, cond, List, [], ◌∷◌, ◌++◌, length, refl, sym, ap, subst, ◌∙◌, arith, nat_eq}
use Rattle.std.specs.Prelude.{None, Some, slice_set}
use Rattle.std.specs.List.{flat_map}
use Rattle.std.specs.Ordering.{eq_by_cmp}
use Rattle.std.specs.FinMap.{get-entries, get-empty, get-from_entries}
use Rattle.row_key.specs.declared.widths.Widths.{Widths}
use Rattle.std.specs.FinMap.Entries.{find}
use Rattle.std.proofs.lemmas.Bool.Decides.{nat_tests}
use Rattle.cell_model.specs.declared.row.Row.{Row}
use Rattle.cell_model.specs.declared.events.Step.{Step}
use Rattle.cell_model.specs.declared.events.Step.TheVariants.{Open, Read, NextRow, Bump, Claim, PutPoint, AppendPoint, PutMerged, DropCells}
use Rattle.cell_model.specs.declared.events.Place.{Place}
use Rattle.cell_model.specs.declared.events.Content.{Content}
use Rattle.cell_model.specs.Store.{Store, entries, get, place_cmp, stamped}
use Rattle.cell_model.specs.Machine.{after, reply_of, counter_row}
use Rattle.cell_model.proofs.CallerLemmas.{places_total, same_store, stamped_widths}
use Rattle.cell_laws.specs.StoreParts.{part, of_region, is_mine, StaysWithin}
use Rattle.cell_laws.specs.JoinedParts.{AreParts, joined, part_at}
use Rattle.cell_laws.proofs.Parts.{get-part, part-empty, get-mine, after-mine, after-other, stamped-part, stamped-other, reply-part}

pub is_same : (a b : ℕ) → a ≡ b → nat_eq a b ≡ true
is_same a b e = grind (arith, nat_tests)

pub is_other : (a b : ℕ) → a ≢ b → nat_eq a b ≡ false
is_other a b e = grind (arith, nat_tests)

split : (a b : ℕ) (t : Bool) → nat_eq a b ≡ t → (a ≡ b) ⊎ (a ≢ b)
split a b true e = inl (grind (arith, nat_tests))
split a b false e = inr (λ same. let t : true ≡ false = sym (is_same a b same) ∙ e in cc)

pub is_equal_by : (a b : ℕ) → nat_eq a b ≡ true → a ≡ b
is_equal_by a b e = grind (arith, nat_tests)

pub same_or : (a b : ℕ) → (a ≡ b) ⊎ (a ≢ b)
same_or a b = split a b (nat_eq a b) refl

-- what is found first is found in the front, or else behind it
find_front : (q : Place) (xs ys : List (Place × Content)) → find place_cmp q ys ≡ None → find place_cmp q (xs ++ ys) ≡ find place_cmp q xs
find_front q [] ys none = none
find_front q (x ∷ xs) ys none = ap (λ o. cond (eq_by_cmp place_cmp q x.0) (Some x.1) o) (find_front q xs ys none)

find_past : (q : Place) (xs ys : List (Place × Content)) → find place_cmp q xs ≡ None → find place_cmp q (xs ++ ys) ≡ find place_cmp q ys
find_past q [] ys none = refl
find_past q (x ∷ xs) ys none = at (eq_by_cmp place_cmp q x.0) none (find_past q xs ys)
  where
    at : (b : Bool) → cond b (Some x.1) (find place_cmp q xs) ≡ None → (find place_cmp q xs ≡ None → find place_cmp q (xs ++ ys) ≡ find place_cmp q ys) → cond b (Some x.1) (find place_cmp q (xs ++ ys)) ≡ find place_cmp q ys
    at true e rest = cc
    at false e rest = rest e

module _ (w : Widths) (region : Row → ℕ) where
  -- a part has nothing at a place of another region
  none_there : (k : ℕ) (p : Store) (q : Place) → part (of_region region k) p ≡ p → region q.row ≢ k → get p q ≡ None
  none_there k p q is other = ap (λ s. get s q) (sym is) ∙ get-part (of_region region k) p q ∙ ap (λ b. cond b (get p q) None) (is_other (region q.row) k other)

  pub none_below : (n : ℕ) (ps : List Store) (q : Place) → AreParts w region n ps → region q.row < n → find place_cmp q (flat_map entries ps) ≡ None
  none_below n [] q are lt = refl
  none_below n (p ∷ ps) q are lt =
      find_past q (entries p) (flat_map entries ps) (sym (get-entries p.cells q) ∙ none_there n p q are.0 (λ e. omega arith))
      ∙ none_below (n + 1) ps q are.2 (omega arith)

  find_joined : (n : ℕ) (ps : List Store) (q : Place) (j : ℕ) → AreParts w region n ps → region q.row ≡ n + j → find place_cmp q (flat_map entries ps) ≡ get (part_at w ps j) q
  find_joined n [] q j are is = sym (get-empty place_cmp q)
  find_joined n (p ∷ ps) q zero are is =
      find_front q (entries p) (flat_map entries ps) (none_below (n + 1) ps q are.2 (omega arith)) ∙ sym (get-entries p.cells q)
  find_joined n (p ∷ ps) q (suc j) are is =
      find_past q (entries p) (flat_map entries ps) (sym (get-entries p.cells q) ∙ none_there n p q are.0 (λ e. omega arith))
      ∙ find_joined (n + 1) ps q j are.2 (omega arith)

  get-joined : (ps : List Store) (q : Place) → AreParts w region 0 ps → get (joined w ps) q ≡ get (part_at w ps (region q.row)) q
  get-joined ps q are = get-from_entries places_total (flat_map entries ps) q ∙ find_joined 0 ps q (region q.row) are (omega arith)

  -- each part is of its region
  part_is : (n : ℕ) (ps : List Store) (j k : ℕ) → AreParts w region n ps → k ≡ n + j → part (of_region region k) (part_at w ps j) ≡ part_at w ps j
  part_is n [] j k are e = part-empty (of_region region k) w
  part_is n (p ∷ ps) zero k are e = let same : n ≡ k = omega arith in subst (λ (i : ℕ). part (of_region region i) p ≡ p) same are.0
  part_is n (p ∷ ps) (suc j) k are e = part_is (n + 1) ps j k are.2 (omega arith)

  -- each part has the widths
  pub widths_are : (n : ℕ) (ps : List Store) (j : ℕ) → AreParts w region n ps → (part_at w ps j).widths ≡ w
  widths_are n [] j are = refl
  widths_are n (p ∷ ps) zero are = are.1
  widths_are n (p ∷ ps) (suc j) are = widths_are (n + 1) ps j are.2

  pub parts-joined : (ps : List Store) (k : ℕ) → AreParts w region 0 ps → part (of_region region k) (joined w ps) ≡ part_at w ps k
  parts-joined ps k are = same_store _ _ (sym (widths_are 0 ps k are)) (λ q. at q (same_or (region q.row) k))
    where
      at : (q : Place) → (region q.row ≡ k) ⊎ (region q.row ≢ k) → get (part (of_region region k) (joined w ps)) q ≡ get (part_at w ps k) q
      at q (inl same) = get-mine (of_region region k) (joined w ps) q (is_same (region q.row) k same) ∙ get-joined ps q are ∙ ap (λ i. get (part_at w ps i) q) same
      at q (inr other) =
          get-part (of_region region k) (joined w ps) q ∙ ap (λ b. cond b (get (joined w ps) q) None) (is_other (region q.row) k other)
          ∙ sym (none_there k (part_at w ps k) q (part_is 0 ps k k are (omega arith)) other)

  -- stores with the same widths and the same parts are the same
  pub same_parts : (a b : Store) → a.widths ≡ b.widths → ((k : ℕ) → part (of_region region k) a ≡ part (of_region region k) b) → a ≡ b
  same_parts a b widths same = same_store a b widths (λ q.
      sym (get-mine (of_region region (region q.row)) a q (is_same (region q.row) (region q.row) refl))
      ∙ ap (λ s. get s q) (same (region q.row))
      ∙ get-mine (of_region region (region q.row)) b q (is_same (region q.row) (region q.row) refl))

  pub set_parts : (n : ℕ) (ps : List Store) (k m : ℕ) (s : Store) → AreParts w region n ps → m ≡ n + k → part (of_region region m) s ≡ s → s.widths ≡ w → AreParts w region n (slice_set ps k s)
  set_parts n [] k m s are e is v = tt
  set_parts n (p ∷ ps) zero m s are e is v = let same : m ≡ n = omega arith in (subst (λ (i : ℕ). part (of_region region i) s ≡ s) same is, v, are.2)
  set_parts n (p ∷ ps) (suc k) m s are e is v = (are.0, are.1, set_parts (n + 1) ps k m s are.2 (omega arith) is v)

  pub at_set : (ps : List Store) (k : ℕ) (s : Store) → k < length ps → part_at w (slice_set ps k s) k ≡ s
  at_set [] k s lt = absurd (omega arith)
  at_set (p ∷ ps) zero s lt = refl
  at_set (p ∷ ps) (suc k) s lt = at_set ps k s (omega arith)

  pub at_other : (ps : List Store) (k j : ℕ) (s : Store) → j ≢ k → part_at w (slice_set ps k s) j ≡ part_at w ps j
  at_other [] k j s ne = refl
  at_other (p ∷ ps) zero zero s ne = absurd (ne refl)
  at_other (p ∷ ps) zero (suc j) s ne = refl
  at_other (p ∷ ps) (suc k) zero s ne = refl
  at_other (p ∷ ps) (suc k) (suc j) s ne = at_other ps k j s (λ e. ne (ap suc e))

  one_region : (k j : ℕ) (row : Row) → of_region region k row ≡ true → j ≢ k → of_region region j row ≡ false
  one_region k j row is ne = is_other (region row) j (λ e. ne (sym e ∙ is_equal_by (region row) k is))

  -- a step of region k is none of region j
  not_both : (k j : ℕ) (step : Step) → is_mine (of_region region k) step ≡ true → j ≢ k → is_mine (of_region region j) step ≡ false
  not_both k j Open is ne = refl
  not_both k j (Read row) is ne = one_region k j row is ne
  not_both k j (NextRow table from to) is ne = one_region k j (record { table = table; bytes = from }) is ne
  not_both k j (Bump kind) is ne = one_region k j counter_row is ne
  not_both k j (Claim row qual value) is ne = one_region k j row is ne
  not_both k j (PutPoint point row qual value) is ne = one_region k j row is ne
  not_both k j (AppendPoint point row piece) is ne = one_region k j row is ne
  not_both k j (PutMerged row qual value) is ne = one_region k j row is ne
  not_both k j (DropCells row which) is ne = one_region k j row is ne

  pub stepped_part : (ps : List Store) (k place : ℕ) (step : Step) → AreParts w region 0 ps → is_mine (of_region region k) step ≡ true → part (of_region region k) (after (part_at w ps k) place step) ≡ after (part_at w ps k) place step
  stepped_part ps k place step are is = after-mine (of_region region k) (part_at w ps k) place step is ∙ ap (λ s. after s place step) (part_is 0 ps k k are (omega arith))

  -- a store that has another part in place of one
  pub set_joined : (ps : List Store) (k : ℕ) (p s : Store) → AreParts w region 0 ps → k < length ps → part (of_region region k) p ≡ p → p.widths ≡ w → s.widths ≡ w → part (of_region region k) s ≡ p → ((j : ℕ) → j ≢ k → part (of_region region j) s ≡ part_at w ps j) → joined w (slice_set ps k p) ≡ s
  set_joined ps k p s are lt own pw sw here others = same_parts _ _ (sym sw) (λ j. at j (same_or j k))
    where
      new : AreParts w region 0 (slice_set ps k p)
      new = set_parts 0 ps k k p are (omega arith) own pw

      at : (j : ℕ) → (j ≡ k) ⊎ (j ≢ k) → part (of_region region j) (joined w (slice_set ps k p)) ≡ part (of_region region j) s
      at j (inl same) = subst (λ (i : ℕ). part (of_region region i) (joined w (slice_set ps k p)) ≡ part (of_region region i) s) (sym same) (parts-joined (slice_set ps k p) k new ∙ at_set ps k p lt ∙ sym here)
      at j (inr other) = parts-joined (slice_set ps k p) j new ∙ at_other ps k j p other ∙ sym (others j other)

  pub step_in_part : (ps : List Store) (k place : ℕ) (step : Step) → AreParts w region 0 ps → k < length ps → is_mine (of_region region k) step ≡ true → joined w (slice_set ps k (after (part_at w ps k) place step)) ≡ after (joined w ps) place step
  step_in_part ps k place step are lt is =
      set_joined ps k (after (part_at w ps k) place step) (after (joined w ps) place step) are lt (stepped_part ps k place step are is) (widths_are 0 ps k are) refl
      (after-mine (of_region region k) (joined w ps) place step is ∙ ap (λ s. after s place step) (parts-joined ps k are))
      (λ j other. after-other (of_region region j) (joined w ps) place step (not_both k j step is other) ∙ parts-joined ps j are)

  -- a stamp too is made on one part
  pub stamp_in_part : (ps : List Store) (k : ℕ) (row : Row) (qual : List ℕ) (version : ℕ) → AreParts w region 0 ps → k < length ps → of_region region k row ≡ true → joined w (slice_set ps k (stamped (part_at w ps k) row qual version)) ≡ stamped (joined w ps) row qual version
  stamp_in_part ps k row qual version are lt is =
      set_joined ps k (stamped (part_at w ps k) row qual version) (stamped (joined w ps) row qual version) are lt
      (stamped-part (of_region region k) (part_at w ps k) row qual version is ∙ ap (λ s. stamped s row qual version) (part_is 0 ps k k are (omega arith)))
      (stamped_widths (part_at w ps k) row qual version ∙ widths_are 0 ps k are) (stamped_widths (joined w ps) row qual version)
      (stamped-part (of_region region k) (joined w ps) row qual version is ∙ ap (λ s. stamped s row qual version) (parts-joined ps k are))
      (λ j other. stamped-other (of_region region j) (joined w ps) row qual version (one_region k j row is other) ∙ parts-joined ps j are)

  pub reply_in_part : (ps : List Store) (k place : ℕ) (step : Step) → AreParts w region 0 ps → is_mine (of_region region k) step ≡ true → StaysWithin (of_region region k) step → reply_of (part_at w ps k) place step ≡ reply_of (joined w ps) place step
  reply_in_part ps k place step are is stays = ap (λ s. reply_of s place step) (sym (parts-joined ps k are)) ∙ reply-part (of_region region k) (joined w ps) place step is stays
