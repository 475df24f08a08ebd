-- The first of conflicts.
use Rattle.std.proofs.Common.{◌≡◌, ⊎_elim, ℕ, Bool, true, false, List, [], ◌∷◌, Some, Equal, refl, sym, ap, ◌∙◌}
use Rattle.std.specs.Prelude.{Contains, find, if◌then◌else◌}
use Rattle.std.specs.Cmp.{IsTotalOrder, nat_cmp_total, on_total, then_flip, then_total}
use Rattle.std.specs.Cmp.Lexicographic.{lists_total, slice_cmp}
use Rattle.std.specs.FinMap.{IsAntisymmetric, nat_cmp-IsAntisymmetric, slice_cmp-IsAntisymmetric}
use Rattle.std.specs.List.{list_all}
use Rattle.std.specs.Ordering.{is_le, nat_cmp, ordering_reverse, ordering_then}
use Rattle.std.specs.declared.cmp.Ordering.{Ordering}
use Rattle.std.specs.declared.cmp.Ordering.TheVariants.{Less, Greater}
use Rattle.std.proofs.lemmas.Bool.{and_from, and_parts, true≢false}
use Rattle.row_key.specs.KeyOrder.{pair_cmp}
use Rattle.batch_job.specs.Conflicts.{Conflict, conflict_cmp, is_first}
use Rattle.batch_job.proofs.Lower.{here, not_in, split, there}

-- ---- lists
all_at : {X : Type 0} (p : X → Bool) (xs : List X) (x : X) → list_all p xs ≡ true → Contains xs x → p x ≡ true
all_at p [] x e has = absurd (not_in x has)
all_at p (y ∷ xs) x e has =
    let b = and_parts _ _ e in
    ⊎_elim (λ (same : y ≡ x). ap p (sym same) ∙ b.0) (λ (later : Contains xs x). all_at p xs x b.1 later) (split y x xs has)

pub all_true : {X : Type 0} (p : X → Bool) (xs : List X) → ((x : X) → Contains xs x → p x ≡ true) → list_all p xs ≡ true
all_true p [] each = refl
all_true p (y ∷ xs) each = and_from _ _ (each y (here y xs)) (all_true p xs (λ x has. each x (there y x xs has)))

pub record FoundIn {X : Type 0} (p : X → Bool) (xs : List X) : Type 0 where
  pub item : X
  pub among : Contains xs item
  pub passes : p item ≡ true
  pub is : find p xs ≡ Some item

find_some : {X : Type 0} (p : X → Bool) (xs : List X) (x : X) → Contains xs x → p x ≡ true → FoundIn p xs
find_some p [] x has passes = absurd (not_in x has)
find_some p (y ∷ xs) x has passes = at (p y) refl (λ later. find_some p xs x later passes)
  where
    at : (b : Bool) → p y ≡ b → (Contains xs x → FoundIn p xs) → FoundIn p (y ∷ xs)
    at true e rest = record { item = y; among = here y xs; passes = e; is = ap (λ b. if b then Some y else find p xs) e }
    at false e rest =
        let f = rest (⊎_elim (λ (same : y ≡ x). absurd (true≢false (sym (ap p same ∙ passes) ∙ e))) (λ (later : Contains xs x). later) (split y x xs has)) in
        record { item = f.item; among = there y f.item xs f.among; passes = f.passes; is = ap (λ b. if b then Some y else find p xs) e ∙ f.is }

-- ---- the order of conflicts
pairs_total : IsTotalOrder (slice_cmp pair_cmp)
pairs_total = lists_total (then_total (on_total (λ (p : ℕ × ℕ). p.0) nat_cmp_total) (on_total (λ (p : ℕ × ℕ). p.1) nat_cmp_total))

pub both_equal : (a b : Ordering) → ordering_then a b ≡ Equal → (a ≡ Equal) × (b ≡ Equal)
both_equal Less b e = absurd cc
both_equal Equal b e = (refl, e)
both_equal Greater b e = absurd cc

pub pair_exact : IsAntisymmetric pair_cmp
pair_exact p q e =
    let h = both_equal (nat_cmp p.0 q.0) (nat_cmp p.1 q.1) e in
    let key = nat_cmp-IsAntisymmetric p.0 q.0 h.0 in
    let value = nat_cmp-IsAntisymmetric p.1 q.1 h.1 in
    λ i. (key i, value i)

conflict_flip : (c d : Conflict) → conflict_cmp c d ≡ ordering_reverse (conflict_cmp d c)
conflict_flip c d =
    (λ i. ordering_then (nat_cmp_total.antisymm c.hour d.hour i) (ordering_then (pairs_total.antisymm c.pairs d.pairs i) (nat_cmp_total.antisymm c.time d.time i)))
    ∙ ap (ordering_then (ordering_reverse (nat_cmp d.hour c.hour))) (then_flip (slice_cmp pair_cmp d.pairs c.pairs) (nat_cmp d.time c.time))
    ∙ then_flip (nat_cmp d.hour c.hour) (ordering_then (slice_cmp pair_cmp d.pairs c.pairs) (nat_cmp d.time c.time))

le_both : (o p : Ordering) → o ≡ ordering_reverse p → is_le o ≡ true → is_le p ≡ true → o ≡ Equal
le_both Less Less e a b = absurd cc
le_both Less Equal e a b = absurd cc
le_both Less Greater e a b = absurd (true≢false (sym b))
le_both Equal p e a b = refl
le_both Greater p e a b = absurd (true≢false (sym a))

-- conflicts of one row and time
pub record AtOnce (c d : Conflict) : Type 0 where
  pub hour : c.hour ≡ d.hour
  pub pairs : c.pairs ≡ d.pairs
  pub time : c.time ≡ d.time

at_once : (c d : Conflict) → conflict_cmp c d ≡ Equal → AtOnce c d
at_once c d e =
    let h = both_equal _ _ e in
    let k = both_equal _ _ h.1 in
    record { hour = nat_cmp-IsAntisymmetric c.hour d.hour h.0; pairs = slice_cmp-IsAntisymmetric pair_exact c.pairs d.pairs k.0; time = nat_cmp-IsAntisymmetric c.time d.time k.1 }

-- where one conflict has none before it, the one that is found is of its row and time
pub record FirstFound (cs : List Conflict) (c : Conflict) : Type 0 where
  pub conflict : Conflict
  pub among : Contains cs conflict
  pub is : find (is_first cs) cs ≡ Some conflict
  pub same : AtOnce c conflict

pub first_found : (cs : List Conflict) (c : Conflict) → Contains cs c → ((d : Conflict) → Contains cs d → is_le (conflict_cmp c d) ≡ true) → FirstFound cs c
first_found cs c has least =
    let f = find_some (is_first cs) cs c has (all_true (λ d. is_le (conflict_cmp c d)) cs least) in
    let back = all_at (λ d. is_le (conflict_cmp f.item d)) cs c f.passes has in
    record { conflict = f.item; among = f.among; is = f.is; same = at_once c f.item (le_both (conflict_cmp c f.item) (conflict_cmp f.item c) (conflict_flip c f.item) (least f.item f.among) back) }
