-- The entries of the parts, once they rise, are those of the whole.
use Rattle.std.proofs.Common.{◌≡◌, ℕ, zero, suc, ◌+◌, Bool, true, false, cond, T, List, [], ◌∷◌, ◌++◌, map, get_or, refl, sym, ap, subst, ◌∙◌, arith}
use Rattle.std.specs.Prelude.{Option, None, Some, Contains, filter}
use Rattle.std.specs.List.{AllByRecursion, IsDistinct, flat_map}
use Rattle.std.specs.List.Sorted.{IsPermutation, IsSortedBy}
use Rattle.std.specs.declared.cmp.Ordering.{Ordering}
use Rattle.std.specs.declared.cmp.Ordering.TheVariants.{Less, Equal, Greater}
use Rattle.std.specs.Ordering.{eq_by_cmp, is_eq, is_lt, ordering_reverse}
use Rattle.std.specs.FinMap.{entries_sorted, entries-from_sorted, from_sorted, get-from_entries, get-from_sorted}
use Rattle.row_key.specs.declared.widths.Widths.{Widths}
use Rattle.std.specs.FinMap.Entries.{find, is_sorted, below_all}
use Rattle.std.proofs.lemmas.List.Sorted.{Contains-permutation, IsPermutation-map, IsPermutation-sym}
use Rattle.std.proofs.lemmas.Map.Keys.{IsDistinct-IsPermutation}
use Rattle.list_lemmas.proofs.BoolTests.{T_both, T_left, T_right, T_less, is_equal, not_Some, same_Some}
use Rattle.list_lemmas.proofs.ListCuts.{map_join}
use Rattle.list_lemmas.proofs.ListMembers.{here, there}
use Rattle.cell_model.specs.declared.row.Row.{Row}
use Rattle.cell_model.specs.declared.events.Place.{Place}
use Rattle.cell_model.specs.declared.events.Content.{Content}
use Rattle.cell_model.specs.Store.{Store, entries, place_cmp}
use Rattle.cell_model.proofs.CallerLemmas.{places_total, exact_places, same_store}
use Rattle.cell_laws.specs.StoreParts.{part, of_region}
use Rattle.cell_laws.specs.JoinedParts.{AreParts, joined}
use Rattle.cell_laws.proofs.PlaceTests.{tied}
use Rattle.cell_laws.proofs.Parts.{entries-part}
use Rattle.cell_laws.proofs.Joins.{none_below, is_equal_by}

abbrev is_place : Place → Place → Bool
is_place = eq_by_cmp place_cmp

abbrev places : List (Place × Content) → List Place
places es = map (λ (e : Place × Content). e.0) es

-- ---- no place stands twice

AllAre : (Place → Type 0) → List (Place × Content) → Type 0
AllAre P [] = Unit {0}
AllAre P (e ∷ es) = P e.0 × AllAre P es

-- of the places of a sorted list
apart_below : (q : Place) (es : List (Place × Content)) → T (below_all place_cmp q es) → AllByRecursion (λ p. is_place q p ≡ false) (places es)
apart_below q [] up = tt
apart_below q (e ∷ es) up = (ap is_eq (T_less _ (T_left _ _ up)), apart_below q es (T_right _ _ up))

distinct_sorted : (es : List (Place × Content)) → T (is_sorted place_cmp es) → IsDistinct is_place (places es)
unfolding IsDistinct
distinct_sorted [] up = tt
distinct_sorted (e ∷ es) up = (apart_below e.0 es (T_left _ _ up), distinct_sorted es (T_right _ _ up))

-- nor in two lists, of which the second has no place of the first
apart_of_none : (q : Place) (es : List (Place × Content)) → find place_cmp q es ≡ None → AllByRecursion (λ p. is_place q p ≡ false) (places es)
apart_of_none q [] none = tt
apart_of_none q (e ∷ es) none = at (is_place q e.0) refl none (apart_of_none q es)
  where
    at : (b : Bool) → is_place q e.0 ≡ b → cond b (Some e.1) (find place_cmp q es) ≡ None → (find place_cmp q es ≡ None → AllByRecursion (λ p. is_place q p ≡ false) (places es)) → (is_place q e.0 ≡ false) × AllByRecursion (λ p. is_place q p ≡ false) (places es)
    at true t n rest = absurd (not_Some e.1 n)
    at false t n rest = (t, rest n)

apart_join : (q : Place) (xs ys : List Place) → AllByRecursion (λ p. is_place q p ≡ false) xs → AllByRecursion (λ p. is_place q p ≡ false) ys → AllByRecursion (λ p. is_place q p ≡ false) (xs ++ ys)
apart_join q [] ys a b = b
apart_join q (x ∷ xs) ys a b = (a.0, apart_join q xs ys a.1 b)

distinct_join : (xs ys : List (Place × Content)) → IsDistinct is_place (places xs) → IsDistinct is_place (places ys) → AllAre (λ q. find place_cmp q ys ≡ None) xs → IsDistinct is_place (places xs ++ places ys)
unfolding AllAre IsDistinct
distinct_join [] ys a b none = b
distinct_join (x ∷ xs) ys a b none = (apart_join x.0 (places xs) (places ys) a.0 (apart_of_none x.0 ys none.0), distinct_join xs ys a.1 b none.1)

flips : (a b : Place) → is_place a b ≡ is_place b a
flips a b = ap is_eq (places_total.antisymm a b) ∙ turned (place_cmp b a)
  where
    turned : (o : Ordering) → is_eq (ordering_reverse o) ≡ is_eq o
    turned Less = refl
    turned Equal = refl
    turned Greater = refl

-- ---- what is found among places of which none stands twice

found_in : (q : Place) (es : List (Place × Content)) (c : Content) → find place_cmp q es ≡ Some c → Contains es (q, c)
found_in q [] c is = absurd (not_Some c (sym is))
found_in q (e ∷ es) c is = at (is_place q e.0) refl is (found_in q es c)
  where
    at : (b : Bool) → is_place q e.0 ≡ b → cond b (Some e.1) (find place_cmp q es) ≡ Some c → (find place_cmp q es ≡ Some c → Contains es (q, c)) → Contains (e ∷ es) (q, c)
    at true t f rest = subst (λ (x : Place × Content). Contains (e ∷ es) x) (λ i. (sym (exact_places q e.0 (is_equal _ t)) i, same_Some e.1 c f i)) (here e es)
    at false t f rest = there e (q, c) es (rest f)

apart_from : (x : Place) (es : List (Place × Content)) (e : Place × Content) → AllByRecursion (λ p. is_place x p ≡ false) (places es) → Contains es e → is_place x e.0 ≡ false
apart_from x [] e a c = absurd (omega (arith, c.1))
apart_from x (y ∷ es) e a (zero, lt, is) = ap (λ (z : Place × Content). is_place x z.0) (sym is) ∙ a.0
apart_from x (y ∷ es) e a (suc k, lt, is) = apart_from x es e a.1 (k, omega (arith, lt), is)

find_in : (es : List (Place × Content)) (q : Place) (c : Content) → IsDistinct is_place (places es) → Contains es (q, c) → find place_cmp q es ≡ Some c
unfolding IsDistinct
find_in [] q c d i = absurd (omega (arith, i.1))
find_in (e ∷ es) q c d (zero, lt, is) =
    ap (λ b. cond b (Some e.1) (find place_cmp q es)) (ap (is_place q) (ap (λ (x : Place × Content). x.0) is) ∙ tied q) ∙ ap (λ (x : Place × Content). Some x.1) is
find_in (e ∷ es) q c d (suc k, lt, is) =
    let in-rest : Contains es (q, c) = (k, omega (arith, lt), is) in
    ap (λ b. cond b (Some e.1) (find place_cmp q es)) (flips q e.0 ∙ apart_from e.0 es (q, c) d.0 in-rest) ∙ find_in es q c d.1 in-rest

same_found : (xs ys : List (Place × Content)) (q : Place) → IsDistinct is_place (places xs) → IsDistinct is_place (places ys) → IsPermutation xs ys → find place_cmp q xs ≡ find place_cmp q ys
same_found xs ys q dx dy moved = at (find place_cmp q xs) refl (find place_cmp q ys) refl
  where
    at : (a : Option Content) → find place_cmp q xs ≡ a → (b : Option Content) → find place_cmp q ys ≡ b → a ≡ b
    at (Some c) e b f = sym (find_in ys q c dy (Contains-permutation xs ys (q, c) moved (found_in q xs c e))) ∙ f
    at None e None f = refl
    at None e (Some c) f = absurd (not_Some c (sym (find_in xs q c dx (Contains-permutation ys xs (q, c) (IsPermutation-sym xs ys moved) (found_in q ys c f))) ∙ e))

-- ---- a list that doesn't fall, and in which no place stands twice, rises

rises : (es : List (Place × Content)) → IsSortedBy (λ (a b : Place × Content). is_lt (place_cmp a.0 b.0)) es → IsDistinct is_place (places es) → T (is_sorted place_cmp es)
unfolding IsDistinct
rises [] up d = tt
rises (e ∷ []) up d = tt
rises (e ∷ f ∷ es) up d =
    let rest = rises (f ∷ es) (λ k x low lt. next k x (up (suc k) x (omega arith) (omega (arith, lt)))) d.1 in
    let less = below (place_cmp e.0 f.0) refl d.0.0 (up 0 e (omega arith) (omega arith)) in
    T_both _ _ (T_both _ _ (subst (λ (o : Ordering). T (is_lt o)) (sym less) tt) (under es less (T_left _ _ rest))) rest
  where
    next : (k : ℕ) (x : Place × Content) → is_lt (place_cmp (get_or (e ∷ f ∷ es) (suc k + 1) x).0 (get_or (e ∷ f ∷ es) (suc k) x).0) ≡ false → is_lt (place_cmp (get_or (f ∷ es) (k + 1) x).0 (get_or (f ∷ es) k x).0) ≡ false
    next k x low = let later : suc k + 1 ≡ suc (k + 1) = omega arith in ap (λ (n : ℕ). is_lt (place_cmp (get_or (e ∷ f ∷ es) n x).0 (get_or (f ∷ es) k x).0)) (sym later) ∙ low

    under : (xs : List (Place × Content)) → place_cmp e.0 f.0 ≡ Less → T (below_all place_cmp f.0 xs) → T (below_all place_cmp e.0 xs)
    under [] less up = tt
    under (x ∷ xs) less up = T_both _ _ (subst (λ (o : Ordering). T (is_lt o)) (sym (places_total.trans e.0 f.0 x.0 less (T_less _ (T_left _ _ up)))) tt) (under xs less (T_right _ _ up))

    below : (o : Ordering) → place_cmp e.0 f.0 ≡ o → is_place e.0 f.0 ≡ false → is_lt (place_cmp f.0 e.0) ≡ false → place_cmp e.0 f.0 ≡ Less
    below Less is apart low = is
    below Equal is apart low = let t : true ≡ false = sym (ap is_eq is) ∙ apart in absurd cc
    below Greater is apart low = let t : true ≡ false = sym (ap is_lt (places_total.antisymm f.0 e.0 ∙ ap ordering_reverse is)) ∙ low in absurd cc

module _ (w : Widths) (region : Row → ℕ) where
  -- the places of a part are of its region, and so none of them is in a later part
  own_rows : (k : ℕ) (es : List (Place × Content)) → AllAre (λ q. region q.row ≡ k) (filter (λ (e : Place × Content). of_region region k e.0.row) es)
  unfolding AllAre
  own_rows k [] = tt
  own_rows k (e ∷ es) = at (of_region region k e.0.row) refl (own_rows k es)
    where
      at : (b : Bool) → of_region region k e.0.row ≡ b → AllAre (λ q. region q.row ≡ k) (filter (λ (x : Place × Content). of_region region k x.0.row) es)
          → AllAre (λ q. region q.row ≡ k) (cond b (e ∷ filter (λ (x : Place × Content). of_region region k x.0.row) es) (filter (λ (x : Place × Content). of_region region k x.0.row) es))
      at true is rest = (is_equal_by (region e.0.row) k is, rest)
      at false is rest = rest

  own_places : (k : ℕ) (p : Store) → part (of_region region k) p ≡ p → AllAre (λ q. region q.row ≡ k) (entries p)
  own_places k p is = subst (AllAre (λ q. region q.row ≡ k)) (sym (entries-part (of_region region k) p) ∙ ap entries is) (own_rows k (entries p))

  none_later : (n : ℕ) (ps : List Store) (es : List (Place × Content)) → AreParts w region (n + 1) ps → AllAre (λ q. region q.row ≡ n) es → AllAre (λ q. find place_cmp q (flat_map entries ps) ≡ None) es
  unfolding AllAre
  none_later n ps [] are own = tt
  none_later n ps (e ∷ es) are own = (none_below w region (n + 1) ps e.0 are (omega (arith, own.0)), none_later n ps es are own.1)

  distinct_parts : (n : ℕ) (ps : List Store) → AreParts w region n ps → IsDistinct is_place (places (flat_map entries ps))
  unfolding IsDistinct
  distinct_parts n [] are = tt
  distinct_parts n (p ∷ ps) are =
      subst (IsDistinct is_place) (sym (map_join (λ (e : Place × Content). e.0) (entries p) (flat_map entries ps)))
      (distinct_join (entries p) (flat_map entries ps) (distinct_sorted (entries p) (entries_sorted p.cells)) (distinct_parts (n + 1) ps are.2) (none_later n ps (entries p) are.2 (own_places n p are.0)))

  pub entries-joined : (ps : List Store) (es : List (Place × Content)) → AreParts w region 0 ps → IsPermutation (flat_map entries ps) es → IsSortedBy (λ (a b : Place × Content). is_lt (place_cmp a.0 b.0)) es → entries (joined w ps) ≡ es
  entries-joined ps es are moved up =
      let d = distinct_parts 0 ps are in
      let e = IsDistinct-IsPermutation is_place flips (places (flat_map entries ps)) (places es) (IsPermutation-map (λ (x : Place × Content). x.0) (flat_map entries ps) es moved) d in
      let sorted = rises es up e in
      ap entries (same_store (joined w ps) (record { widths = w; cells = from_sorted es }) refl (λ q. get-from_entries places_total (flat_map entries ps) q ∙ same_found (flat_map entries ps) es q d e moved ∙ sym (get-from_sorted place_cmp es q sorted)))
      ∙ entries-from_sorted place_cmp es sorted
