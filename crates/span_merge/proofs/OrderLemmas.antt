-- Putting an entry among others in order.
use Rattle.std.proofs.Common.{◌≡◌, cond, List, [], ◌∷◌, ◌++◌, refl, ap, subst, ◌∙◌}
use Rattle.std.specs.Prelude.{None, Some}
use Rattle.std.proofs.lemmas.List.{map-append}
use Rattle.std.specs.List.{AllByRecursion}
use Rattle.std.specs.List.Sorted.{IsStrictlySortedBy}
use Rattle.std.specs.declared.cmp.Ordering.{Ordering}
use Rattle.std.specs.declared.cmp.Ordering.TheVariants.{Less, Equal, Greater}
use Rattle.std.specs.Ordering.{is_eq, match_ordering, ordering_reverse}
use Rattle.std.specs.Cmp.{IsTotalOrder}
use Rattle.std.specs.Map.{keys_of, lookup}
use Rattle.std.specs.BTreeMap.{insert_entry, is_at}

-- what stands above a key that stands above k does too
above_on : {K : Type 0} (R : K → K → Ordering) (o : IsTotalOrder R) (k x : K) → R k x ≡ Less → (ks : List K) → AllByRecursion (λ y. R x y ≡ Less) ks → AllByRecursion (λ y. R k y ≡ Less) ks
above_on R o k x h [] a = tt
above_on R o k x h (y ∷ ys) a = (o.trans k x y h a.0, above_on R o k x h ys a.1)

at_end : {K : Type 0} (P : K → Type 0) (xs : List K) (e : K) → AllByRecursion P (xs ++ e ∷ []) → P e
at_end P [] e h = h.0
at_end P (x ∷ xs) e h = at_end P xs e h.1

module _ {K X : Type 0} (R : K → K → Ordering) (k : K) where
  -- each entry stands below k
  abbrev pub AreBelow : List (K × X) → Type 0
  AreBelow es = AllByRecursion (λ e. R k e.0 ≡ Greater) es

  -- each entry stands above k
  abbrev pub AreAbove : List (K × X) → Type 0
  AreAbove es = AllByRecursion (λ e. R k e.0 ≡ Less) es

  pub insert_behind : (v : X) (es fs : List (K × X)) → AreBelow es → insert_entry R (es ++ fs) k v ≡ es ++ insert_entry R fs k v
  insert_behind v [] fs b = refl
  insert_behind v (e ∷ es) fs b =
      ap (λ r. match_ordering r ((k, v) ∷ e ∷ (es ++ fs)) ((e.0, v) ∷ (es ++ fs)) (e ∷ insert_entry R (es ++ fs) k v)) b.0
      ∙ ap (λ l. e ∷ l) (insert_behind v es fs b.1)

  pub lookup_behind : (es fs : List (K × X)) → AreBelow es → lookup (is_at (R k)) (es ++ fs) ≡ lookup (is_at (R k)) fs
  lookup_behind [] fs b = refl
  lookup_behind (e ∷ es) fs b =
      ap (λ r. cond (is_eq r) (Some e.1) (lookup (is_at (R k)) (es ++ fs))) b.0
      ∙ lookup_behind es fs b.1

  lookup_above : (fs : List (K × X)) → AreAbove fs → lookup (is_at (R k)) fs ≡ None
  lookup_above [] a = refl
  lookup_above (f ∷ fs) a = ap (λ r. cond (is_eq r) (Some f.1) (lookup (is_at (R k)) fs)) a.0 ∙ lookup_above fs a.1

  insert_first : (v : X) (fs : List (K × X)) → AreAbove fs → insert_entry R fs k v ≡ (k, v) ∷ fs
  insert_first v [] a = refl
  insert_first v (f ∷ fs) a = ap (λ r. match_ordering r ((k, v) ∷ f ∷ fs) ((f.0, v) ∷ fs) (f ∷ insert_entry R fs k v)) a.0

  before_at : (v : X) (e : K × X) (es fs : List (K × X)) (r : Ordering) → insert_entry R (es ++ fs) k v ≡ insert_entry R es k v ++ fs
      → match_ordering r ((k, v) ∷ e ∷ (es ++ fs)) ((e.0, v) ∷ (es ++ fs)) (e ∷ insert_entry R (es ++ fs) k v)
      ≡ match_ordering r ((k, v) ∷ e ∷ es) ((e.0, v) ∷ es) (e ∷ insert_entry R es k v) ++ fs
  before_at v e es fs Less h = refl
  before_at v e es fs Equal h = refl
  before_at v e es fs Greater h = ap (λ l. e ∷ l) h

  pub insert_before : (v : X) (es fs : List (K × X)) → AreAbove fs → insert_entry R (es ++ fs) k v ≡ insert_entry R es k v ++ fs
  insert_before v [] fs a = insert_first v fs a
  insert_before v (e ∷ es) fs a = before_at v e es fs (R k e.0) (insert_before v es fs a)

  pub lookup_before : (es fs : List (K × X)) → AreAbove fs → lookup (is_at (R k)) (es ++ fs) ≡ lookup (is_at (R k)) es
  lookup_before [] fs a = lookup_above fs a
  lookup_before (e ∷ es) fs a = ap (λ l. cond (is_eq (R k e.0)) (Some e.1) l) (lookup_before es fs a)

  -- what holds of k and of each key holds of each key after it was put
  all_at : (P : K → Type 0) (v : X) (e : K × X) (es : List (K × X)) (r : Ordering) → P k → P e.0 → AllByRecursion P (keys_of es) → AllByRecursion P (keys_of (insert_entry R es k v))
      → AllByRecursion P (keys_of (match_ordering r ((k, v) ∷ e ∷ es) ((e.0, v) ∷ es) (e ∷ insert_entry R es k v)))
  all_at P v e es Less p q a h = (p, (q, a))
  all_at P v e es Equal p q a h = (q, a)
  all_at P v e es Greater p q a h = (q, h)

  all_keys : (P : K → Type 0) (v : X) (es : List (K × X)) → P k → AllByRecursion P (keys_of es) → AllByRecursion P (keys_of (insert_entry R es k v))
  all_keys P v [] p a = (p, tt)
  all_keys P v (e ∷ es) p a = all_at P v e es (R k e.0) p a.0 a.1 (all_keys P v es p a.1)

  module _ (o : IsTotalOrder R) where
    -- where what is below the last one is below k, all before the last one are
    pub below_last : (es : List (K × X)) (e : K × X) → ((x : K) → R x e.0 ≡ Less → R x k ≡ Less) → IsStrictlySortedBy R (keys_of (es ++ e ∷ [])) → AreBelow es
    unfolding IsStrictlySortedBy
    below_last [] e h s = tt
    below_last (x ∷ es) e h s = (
      o.antisymm k x.0 ∙ ap ordering_reverse (h x.0 (at_end (λ y. R x.0 y ≡ Less) (keys_of es) e.0 (subst (AllByRecursion (λ y. R x.0 y ≡ Less)) (map-append (λ (d : K × X). d.0) es (e ∷ [])) s.0))),
      below_last es e h s.1,
    )

    all_above : (x : K) → R k x ≡ Less → (es : List (K × X)) → AllByRecursion (λ y. R x y ≡ Less) (keys_of es) → AreAbove es
    all_above x h [] a = tt
    all_above x h (e ∷ es) a = (o.trans k x e.0 h a.0, all_above x h es a.1)

    -- where the first one is above k, all are
    pub above_first : (e : K × X) (es : List (K × X)) → R k e.0 ≡ Less → IsStrictlySortedBy R (keys_of (e ∷ es)) → AreAbove (e ∷ es)
    unfolding IsStrictlySortedBy
    above_first e es h s = (h, all_above e.0 h es s.0)

    sorted_at : (v : X) (e : K × X) (es : List (K × X)) (r : Ordering) → R k e.0 ≡ r → IsStrictlySortedBy R (keys_of (e ∷ es)) → IsStrictlySortedBy R (keys_of (insert_entry R es k v))
        → IsStrictlySortedBy R (keys_of (match_ordering r ((k, v) ∷ e ∷ es) ((e.0, v) ∷ es) (e ∷ insert_entry R es k v)))
    unfolding IsStrictlySortedBy
    sorted_at v e es Less c s h = ((c, above_on R o k e.0 c (keys_of es) s.0), s)
    sorted_at v e es Equal c s h = s
    sorted_at v e es Greater c s h = (all_keys (λ y. R e.0 y ≡ Less) v es (o.antisymm e.0 k ∙ ap ordering_reverse c) s.0, h)

    pub sorted_insert : (v : X) (es : List (K × X)) → IsStrictlySortedBy R (keys_of es) → IsStrictlySortedBy R (keys_of (insert_entry R es k v))
    unfolding IsStrictlySortedBy
    sorted_insert v [] s = (tt, tt)
    sorted_insert v (e ∷ es) s = sorted_at v e es (R k e.0) refl s (sorted_insert v es s.1)

-- the later part of what is in order is
pub sorted_rest : {K : Type 0} (R : K → K → Ordering) (xs ys : List K) → IsStrictlySortedBy R (xs ++ ys) → IsStrictlySortedBy R ys
unfolding IsStrictlySortedBy
sorted_rest R [] ys s = s
sorted_rest R (x ∷ xs) ys s = sorted_rest R xs ys s.1

all_front : {K : Type 0} (P : K → Type 0) (xs ys : List K) → AllByRecursion P (xs ++ ys) → AllByRecursion P xs
all_front P [] ys a = tt
all_front P (x ∷ xs) ys a = (a.0, all_front P xs ys a.1)

-- the earlier part of what is in order is
pub sorted_front : {K : Type 0} (R : K → K → Ordering) (xs ys : List K) → IsStrictlySortedBy R (xs ++ ys) → IsStrictlySortedBy R xs
unfolding IsStrictlySortedBy
sorted_front R [] ys s = tt
sorted_front R (x ∷ xs) ys s = (all_front (λ y. R x y ≡ Less) xs ys s.0, sorted_front R xs ys s.1)
