-- Ids in order, searched.
use Rattle.std.proofs.Common.{◌≡◌, ◌⊎◌, inl, inr, ℕ, zero, suc, ◌<◌, ◌≤◌, true, false, leb, List, [], ◌∷◌, length, get_or, sym, ap, subst, ◌∙◌, arith, ⊎_elim}
use Rattle.std.specs.Prelude.{Result, Ok, Err, MatchResult, nat_eq, is_ok}
use Rattle.std.specs.Ordering.{nat_cmp}
use Rattle.std.specs.List.{list_any}
use Rattle.std.specs.List.Sorted.{IsSorted, IsBinarySearchResult, IsPartitionPoint}
use Rattle.std.proofs.lemmas.Bool.{or_left, or_right, cases_lt, leb-true, leb-false}
use Rattle.std.proofs.lemmas.Bool.Decides.{nat_tests}
use Rattle.std.proofs.lemmas.List.{get_or_default}
use Rattle.std.proofs.lemmas.List.Folds.{list_any_none}
use Rattle.std.proofs.lemmas.List.Sorted.{searched, IsNonDecreasingBy-from_sort}
use Rattle.metric_scan.specs.IdSets.{Rise, IsPlaceAbove}

-- what a sort makes rises
pub sorted_rise : (ids : List ℕ) → IsSorted nat_cmp ids → Rise ids
sorted_rise ids s = IsNonDecreasingBy-from_sort (λ (id : ℕ). id) ids s

any_at : (ids : List ℕ) (i id : ℕ) → i < length ids → get_or ids i 0 ≡ id → list_any (nat_eq id) ids ≡ true
any_at [] i id lt e = absurd (omega (arith, lt))
any_at (x ∷ ids) zero id lt e = let same : nat_eq id x ≡ true = grind (arith, nat_tests, e) in or_left _ _ same
any_at (x ∷ ids) (suc i) id lt e = or_right _ _ (any_at ids i id (omega (arith, lt)) e)

apart : (a b : ℕ) → (b < a) ⊎ (a < b) → nat_eq a b ≡ false
apart a b (inl lt) = grind (arith, nat_tests, lt)
apart a b (inr lt) = grind (arith, nat_tests, lt)

-- a search finds an id where it is among the others
pub found_is : (ids : List ℕ) (id : ℕ) (r : Result ℕ ℕ) → Rise ids → IsBinarySearchResult (λ y. nat_cmp y id) ids r → is_ok r ≡ list_any (nat_eq id) ids
found_is ids id r rise is = at r (searched ids id r is (λ i j le lt. rise i j 0 le lt))
  where
    at : (r : Result ℕ ℕ) → MatchResult r (λ i. (i < length ids) × (get_or ids i 0 ≡ id)) (λ i. (i ≤ length ids) × ((k : ℕ) → k < i → get_or ids k 0 < id) × ((k : ℕ) → i ≤ k → k < length ids → id < get_or ids k 0)) → is_ok r ≡ list_any (nat_eq id) ids
    at (Ok i) (lt, same) = sym (any_at ids i id lt same)
    at (Err i) (le, below, above) = sym (list_any_none (nat_eq id) ids (λ k d lt. ap (nat_eq id) (get_or_default ids k d 0 lt) ∙ apart id (get_or ids k 0) (⊎_elim (λ less. inl (below k less)) (λ ge. inr (above k ge lt)) (cases_lt k i))))

-- where the ids up to the value end
pub place_is : (ids searched : List ℕ) (value at : ℕ) → searched ≡ ids → at ≤ length searched → IsPartitionPoint (λ y. leb y value ≡ true) (λ y. leb y value ≡ false) searched at → IsPlaceAbove value ids at
place_is ids searched value at same within (low, high) = subst (λ (l : List ℕ). IsPlaceAbove value l at) same (within, (λ k d lt. leb-true _ _ (low k d (omega arith) lt)), (λ k d ge lt. leb-false _ _ (high k d ge lt)))
