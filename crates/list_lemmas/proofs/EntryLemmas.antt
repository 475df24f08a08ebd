-- Entries in the order of their keys: one more, one that is found, and how they rise.
use Rattle.std.proofs.Common.{◌≡◌, ℕ, zero, suc, ◌+◌, ◌-◌, ◌<◌, ◌≤◌, false, cond, T, List, [], ◌∷◌, ◌++◌, length, get_or, take, drop, Some, None, Ordering, Less, Equal, Greater, All, AllPairs, IfSome, refl, sym, ap, subst, ◌∙◌, inl, inr, arith}
use Rattle.std.specs.List.{AllByRecursion}
use Rattle.std.specs.Ordering.{is_lt, is_eq, is_gt, eq_by_cmp, ordering_reverse, match_ordering}
use Rattle.std.specs.Cmp.{IsTotalOrder, alike_right}
use Rattle.std.specs.BTreeMap.{insert_entry, is_at}
use Rattle.std.specs.Map.{lookup}
use Rattle.std.specs.FinMap.{IsAntisymmetric, from_entries, entries, entries-insert, len-entries, len-empty, get, get-entries, get-from_entries, same_map, insert, get-insert, get_tied, from_sorted, entries-from_sorted, get-from_sorted}
use Rattle.std.specs.FinMap.Entries.{find, put, is_sorted, below_all, by_order}
use Rattle.std.proofs.lemmas.Bool.{cases_Bool, cases_eq}
use Rattle.std.proofs.lemmas.List.{drop_more, length-take, get_or-take, get_or_default}
use Rattle.std.proofs.lemmas.List.Elements.{All-same, All-cons}
use Rattle.list_lemmas.proofs.BoolTests.{T_both, T_left, T_right, T_less, is_equal}

pub Each-append : {X : Type 0} (P : X → Type 0) (xs ys : List X) → AllByRecursion P xs → AllByRecursion P ys → AllByRecursion P (xs ++ ys)
Each-append P [] ys h k = k
Each-append P (x ∷ xs) ys h k = (h.0, Each-append P xs ys h.1 k)

one_choice : {A : Type 0} (r : Ordering) (x y z : A) → match_ordering r x y z ≡ by_order r x y z
one_choice Less x y z = refl
one_choice Equal x y z = refl
one_choice Greater x y z = refl

-- the map of a `BTreeMap`'s words is that of `FinMap`'s
module _ {K X : Type 0} (R : K → K → Ordering) where
  pub insert_entry-put : (k : K) (v : X) (es : List (K × X)) → insert_entry R es k v ≡ put R k v es
  insert_entry-put k v [] = refl
  insert_entry-put k v (e ∷ es) = ap (match_ordering (R k e.0) ((k, v) ∷ e ∷ es) ((e.0, v) ∷ es)) (ap (λ (rest : List (K × X)). e ∷ rest) (insert_entry-put k v es)) ∙ one_choice (R k e.0) _ _ _

  pub lookup-find : (k : K) (es : List (K × X)) → lookup (is_at (R k)) es ≡ find R k es
  lookup-find k [] = refl
  lookup-find k (e ∷ es) = ap (cond (eq_by_cmp R k e.0) (Some e.1)) (lookup-find k es)

module _ {K X : Type 0} (R : K → K → Ordering) where
  abbrev pub AreBelow : K → List (K × X) → Type 0
  AreBelow k es = AllByRecursion (λ e. R k e.0 ≡ Greater) es

  abbrev pub AreAbove : K → List (K × X) → Type 0
  AreAbove k es = AllByRecursion (λ e. R k e.0 ≡ Less) es

  -- between the entries that are below the key and those that are above it
  pub put-between : (k : K) (v : X) (front back : List (K × X)) → AreBelow k front → AreAbove k back → put R k v (front ++ back) ≡ front ++ (k, v) ∷ back
  put-between k v [] [] h g = refl
  put-between k v [] (e ∷ back) h g = rw g.0 refl
  put-between k v (e ∷ front) back h g = rw h.0 (ap (λ (es : List (K × X)). e ∷ es) (put-between k v front back h.1 g))

  pub find-between : (k : K) (front back : List (K × X)) → AreBelow k front → AreAbove k back → find R k (front ++ back) ≡ None
  find-between k [] [] h g = refl
  find-between k [] (e ∷ back) h g = rw g.0 (find-between k [] back h g.1)
  find-between k (e ∷ front) back h g = rw h.0 (find-between k front back h.1 g)

  pub find-behind : (k : K) (front : List (K × X)) (e : K × X) (back : List (K × X)) → AreBelow k front → R k e.0 ≡ Equal → find R k (front ++ e ∷ back) ≡ Some e.1
  find-behind k [] e back h same = rw same refl
  find-behind k (f ∷ front) e back h same = rw h.0 (find-behind k front e back h.1 same)

  find-push_other : (q k : K) (v : X) (es : List (K × X)) → eq_by_cmp R q k ≡ false → find R q (es ++ (k, v) ∷ []) ≡ find R q es
  find-push_other q k v [] other = rw other refl
  find-push_other q k v (e ∷ es) other = ap (cond (eq_by_cmp R q e.0) (Some e.1)) (find-push_other q k v es other)

  first_rises : (k : K) (es : List (K × X)) (j : ℕ) (d : K × X) → T (below_all R k es) → j < length es → R k (get_or es j d).0 ≡ Less
  first_rises k [] j d h lt = absurd (omega arith)
  first_rises k (e ∷ es) zero d h lt = T_less _ (T_left _ _ h)
  first_rises k (e ∷ es) (suc j) d h lt = first_rises k es j d (T_right _ _ h) (omega arith)

  -- the keys of entries in order rise
  pub sorted-rising : (es : List (K × X)) → T (is_sorted R es) → AllPairs (λ p q. R p.0 q.0 ≡ Less) es
  sorted-rising [] h i j d lt in-list = absurd (omega arith)
  sorted-rising (e ∷ es) h zero zero d lt in-list = absurd (omega arith)
  sorted-rising (e ∷ es) h (suc i) zero d lt in-list = absurd (omega arith)
  sorted-rising (e ∷ es) h zero (suc j) d lt in-list = first_rises e.0 es j d (T_left _ _ h) (omega arith)
  sorted-rising (e ∷ es) h (suc i) (suc j) d lt in-list = sorted-rising es (T_right _ _ h) i j d (omega arith) (omega arith)

  below_from : (k : K) (es : List (K × X)) → ((j : ℕ) (d : K × X) → j < length es → R k (get_or es j d).0 ≡ Less) → T (below_all R k es)
  below_from k [] lt = tt
  below_from k (e ∷ es) lt = T_both _ _ (subst (λ r. T (is_lt r)) (sym (lt 0 e (omega arith))) tt) (below_from k es (λ j d in-list. lt (suc j) d (omega arith)))

  pub sorted_from_rising : (es : List (K × X)) → AllPairs (λ p q. R p.0 q.0 ≡ Less) es → T (is_sorted R es)
  sorted_from_rising [] rising = tt
  sorted_from_rising (e ∷ es) rising =
      T_both _ _ (below_from e.0 es (λ j d in-list. rising 0 (suc j) d (omega arith) (omega arith))) (sorted_from_rising es (λ i j d lt in-list. rising (suc i) (suc j) d (omega arith) (omega arith)))

  -- a search from the end has come to the entry before at
  pub above_more : (k : K) (es : List (K × X)) (at : ℕ) (e : K × X) → 0 < at → at ≤ length es → R k (get_or es (at - 1) e).0 ≡ Less
      → All (λ f. R k f.0 ≡ Less) (drop at es) → All (λ f. R k f.0 ≡ Less) (drop (at - 1) es)
  above_more k es at e some within lt above =
      let one : drop (at - 1) es ≡ get_or es (at - 1) e ∷ drop at es = drop_more es (at - 1) e (omega arith) ∙ ap (λ (n : ℕ). get_or es (at - 1) e ∷ drop n es) (omega arith) in
      All-same (λ f. R k f.0 ≡ Less) _ _ one (All-cons (λ f. R k f.0 ≡ Less) (get_or es (at - 1) e) (drop at es) lt above)

  module _ (o : IsTotalOrder R) where
    -- the entry before at is below the key, and so are those before it
    pub all_before : (k : K) (es : List (K × X)) (at : ℕ) (e : K × X) → AllPairs (λ p q. R p.0 q.0 ≡ Less) es → 0 < at → at ≤ length es → R (get_or es (at - 1) e).0 k ≡ Less
        → All (λ f. R f.0 k ≡ Less) (take at es)
    all_before k es at e rising some within lt i d in-list =
        let i-lt : i < at = omega (arith, length-take at es) in
        let here : R (get_or es (at - 1) d).0 k ≡ Less = rw (get_or_default es (at - 1) d e (omega arith)) lt in
        rw (get_or-take at es i d i-lt) (elim (cases_eq i (at - 1)) [
          | inl same ↦ rw same here
          | inr other ↦ o.trans (get_or es i d).0 (get_or es (at - 1) d).0 k (rising i (at - 1) d (omega arith) (omega arith)) here
        ])

    find-push_tied : (q k : K) (v : X) (es : List (K × X)) → R q k ≡ Equal → IfSome (find R k es) (λ w. w ≡ v) → find R q (es ++ (k, v) ∷ []) ≡ Some v
    find-push_tied q k v [] tied agrees = rw tied refl
    find-push_tied q k v (e ∷ es) tied agrees =
        let alike : eq_by_cmp R k e.0 ≡ eq_by_cmp R q e.0 = ap is_eq (sym (o.congr q k e.0 tied)) in
        elim (cases_Bool (eq_by_cmp R q e.0)) [
          | inl b ↦ let is : e.1 ≡ v = rw (alike, b) at agrees in rw b (ap (λ (w : X). Some w) is)
          | inr b ↦ rw b (find-push_tied q k v es tied (rw (alike, b) at agrees))
        ]

    find-push : (q k : K) (v : X) (es : List (K × X)) → IfSome (find R k es) (λ w. w ≡ v) → find R q (es ++ (k, v) ∷ []) ≡ cond (eq_by_cmp R q k) (Some v) (find R q es)
    find-push q k v es agrees = elim (cases_Bool (eq_by_cmp R q k)) [
      | inl b ↦ rw b (find-push_tied q k v es (is_equal _ b) agrees)
      | inr b ↦ rw b (find-push_other q k v es b)
    ]

    -- a list's map, with one more pair that agrees with those before
    pub entries_push : IsAntisymmetric R → (es : List (K × X)) (k : K) (v : X) → IfSome (find R k es) (λ w. w ≡ v) → entries (from_entries {R = R} (es ++ (k, v) ∷ [])) ≡ put R k v (entries (from_entries {R = R} es))
    entries_push same es k v agrees =
        let m = from_entries {R = R} es in
        let one : from_entries {R = R} (es ++ (k, v) ∷ []) ≡ insert m k v = same_map o same _ _ (λ q. get-from_entries o (es ++ (k, v) ∷ []) q ∙ find-push q k v es agrees ∙ sym (get-insert o m k v q ∙ ap (cond (eq_by_cmp R q k) (Some v)) (get-from_entries o es q))) in
        ap entries one ∙ entries-insert o m k v

    length_put : (k : K) (v : X) (es : List (K × X)) → length (put R k v es) ≤ length es + 1
    length_put k v [] = omega arith
    length_put k v (e ∷ es) = let rest = length_put k v es in
        elim (R k e.0) as (λ r. length (by_order r ((k, v) ∷ e ∷ es) ((e.0, v) ∷ es) (e ∷ put R k v es)) ≤ length (e ∷ es) + 1) [ Less ↦ omega arith | Equal ↦ omega arith | Greater ↦ omega arith ]

    -- a list's map has no more entries than the list
    pub length-entries : (es : List (K × X)) → length (entries (from_entries {R = R} es)) ≤ length es
    length-entries [] = omega (arith, len-entries (from_entries {X = X} {R = R} []), len-empty R X)
    length-entries (e ∷ es) =
        let m = from_entries {R = R} es in
        rw (entries-insert o m e.0 e.1) (omega (arith, length_put e.0 e.1 (entries m), length-entries es))

    -- to put an entry that is there changes nothing
    pub put_again : IsAntisymmetric R → (k : K) (v : X) (es : List (K × X)) → T (is_sorted R es) → find R k es ≡ Some v → put R k v es ≡ es
    put_again same k v es sorted found =
        let m = from_sorted {R = R} es in
        let is : entries m ≡ es = entries-from_sorted R es sorted in
        let here : get m k ≡ Some v = get-from_sorted R es k sorted ∙ found in
        let unchanged : insert m k v ≡ m = same_map o same (insert m k v) m (λ q. get-insert o m k v q ∙ elim (cases_Bool (eq_by_cmp R q k)) [
          | inl b ↦ rw b (sym here ∙ get_tied o m q k (is_equal _ b))
          | inr b ↦ rw b refl
        ]) in
        ap (put R k v) (sym is) ∙ sym (entries-insert o m k v) ∙ ap entries unchanged ∙ is

    pub find-entries : (es : List (K × X)) (q : K) → find R q (entries (from_entries {R = R} es)) ≡ find R q es
    find-entries es q = sym (get-entries (from_entries {R = R} es) q) ∙ get-from_entries o es q

    -- what stands before an entry is below a key that the entry is not above
    below_by : (k : K) (e f : K × X) (r : Ordering) → R e.0 k ≡ r → is_gt r ≡ false → R f.0 e.0 ≡ Less → R k f.0 ≡ Greater
    below_by k e f Less is h lt = o.antisymm k f.0 ∙ ap ordering_reverse (o.trans f.0 e.0 k lt is)
    below_by k e f Equal is h lt = o.antisymm k f.0 ∙ ap ordering_reverse (sym (alike_right o e.0 k f.0 is) ∙ lt)
    below_by k e f Greater is h lt = absurd cc

    first_below : (f : K × X) (front : List (K × X)) (e : K × X) (back : List (K × X)) → T (below_all R f.0 (front ++ e ∷ back)) → R f.0 e.0 ≡ Less
    first_below f [] e back h = T_less _ (T_left _ _ h)
    first_below f (g ∷ front) e back h = first_below f front e back (T_right _ _ h)

    pub before-below : (k : K) (front : List (K × X)) (e : K × X) (back : List (K × X)) → T (is_sorted R (front ++ e ∷ back)) → is_gt (R e.0 k) ≡ false → AreBelow k front
    before-below k [] e back h le = tt
    before-below k (f ∷ front) e back h le =
        (below_by k e f (R e.0 k) refl le (first_below f front e back (T_left _ _ h)), before-below k front e back (T_right _ _ h) le)
