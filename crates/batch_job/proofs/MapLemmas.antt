-- The entries of a list's map.
use Rattle.std.proofs.Common.{◌≡◌, Bool, true, false, ◌&&◌, T, List, [], ◌∷◌, Some, Less, Equal, Greater, refl, sym, ap, subst, ◌∙◌}
use Rattle.std.specs.declared.cmp.Ordering.{Ordering}
use Rattle.std.specs.Cmp.{IsTotalOrder, tied_itself}
use Rattle.std.specs.FinMap.{from_entries, entries, entries-insert, len-entries, len-empty}
use Rattle.std.specs.FinMap.Entries.{find, put, by_order, is_sorted, below_all}
use Rattle.std.specs.List.{AllByRecursion}
use Rattle.std.specs.Ordering.{is_lt, ordering_reverse}
use Rattle.std.proofs.lemmas.List.{nil_from_length}

module _ {K X : Type 0} (R : K → K → Ordering) (total : IsTotalOrder R) (A : K → Type 0) (B : X → Type 0) where
  Each-put : (k : K) (v : X) (es : List (K × X)) → A k → B v → AllByRecursion (λ e. A e.0 × B e.1) es → AllByRecursion (λ e. A e.0 × B e.1) (put R k v es)
  Each-put k v [] a b h = ((a, b), tt)
  Each-put k v (e ∷ es) a b h =
      elim (R k e.0) as (λ r. AllByRecursion (λ e. A e.0 × B e.1) (by_order r ((k, v) ∷ e ∷ es) ((e.0, v) ∷ es) (e ∷ put R k v es))) [
        | Less ↦ ((a, b), h)
        | Equal ↦ ((h.0.0, b), h.1)
        | Greater ↦ (h.0, Each-put k v es a b h.1)
      ]

  pub Each-entries : (es : List (K × X)) → AllByRecursion (λ e. A e.0 × B e.1) es → AllByRecursion (λ e. A e.0 × B e.1) (entries (from_entries {R = R} es))
  Each-entries [] h =
      let none : entries (from_entries {X = X} {R = R} []) ≡ [] = nil_from_length _ (sym (len-entries _) ∙ len-empty R X) in
      subst (AllByRecursion (λ e. A e.0 × B e.1)) (sym none) tt
  Each-entries (e ∷ es) h =
      subst (AllByRecursion (λ e. A e.0 × B e.1)) (sym (entries-insert total (from_entries {R = R} es) e.0 e.1)) (Each-put e.0 e.1 (entries (from_entries {R = R} es)) h.0.0 h.0.1 (Each-entries es h.1))

pub first : (a b : Bool) → T (a && b) → T a
first true b h = tt
first false b h = h

pub second : (a b : Bool) → T (a && b) → T b
second true b h = h
second false b h = absurd h

pub less : (r : Ordering) → T (is_lt r) → r ≡ Less
less Less h = refl
less Equal h = absurd h
less Greater h = absurd h

module _ {K X : Type 0} (R : K → K → Ordering) (total : IsTotalOrder R) where
  found_behind : (e : K × X) (all es : List (K × X)) → T (below_all R e.0 es) → AllByRecursion (λ f. find R f.0 all ≡ Some f.1) es → AllByRecursion (λ f. find R f.0 (e ∷ all) ≡ Some f.1) es
  found_behind e all [] below found = tt
  found_behind e all (f ∷ es) below found =
      let above : R f.0 e.0 ≡ Greater = total.antisymm f.0 e.0 ∙ ap ordering_reverse (less _ (first _ _ below)) in
      (rw above found.0, found_behind e all es (second _ _ below) found.1)

  -- each of the entries in order is found
  pub Each-found : (es : List (K × X)) → T (is_sorted R es) → AllByRecursion (λ e. find R e.0 es ≡ Some e.1) es
  Each-found [] sorted = tt
  Each-found (e ∷ es) sorted = (rw (tied_itself total e.0) refl, found_behind e es es (first _ _ sorted) (Each-found es (second _ _ sorted)))
