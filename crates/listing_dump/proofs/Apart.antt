-- Elements that differ stay so in another order, and then a sorted list rises.
use Rattle.std.proofs.Common.{◌≡◌, ◌⊎◌, inl, inr, ℕ, ◌+◌, ◌≤◌, Bool, true, false, cond, List, [], ◌∷◌, get_or, refl, sym, ap, ◌∙◌, arith}
use Rattle.std.specs.Prelude.{AllPairs, Contains, nat_eq}
use Rattle.std.specs.List.{sum_by}
use Rattle.std.specs.List.Sorted.{IsPermutation, IsSorted}
use Rattle.std.specs.Cmp.{IsTotalOrder}
use Rattle.std.specs.Ordering.{is_lt, ordering_reverse}
use Rattle.std.specs.declared.cmp.Ordering.{Ordering}
use Rattle.std.specs.declared.cmp.Ordering.TheVariants.{Less, Equal, Greater}
use Rattle.std.proofs.lemmas.List.Sorted.{ranks_by, sorted_far, sum_by-IsPermutation}
use Rattle.std.proofs.lemmas.List.Sums.{sum_by-cons}
use Rattle.list_lemmas.proofs.BoolTests.{nat_eq_is, nat_eq-refl}
use Rattle.list_lemmas.proofs.ListMembers.{here, there, split, not_in, pairs_in, pairs_tail}
use Rattle.list_lemmas.proofs.ListParts.{pairs_cons}

-- 1 where the numbers are one, else 0
abbrev is_one : ℕ → ℕ → ℕ
is_one v n = cond (nat_eq n v) 1 0

one_same : (v n : ℕ) → n ≡ v → is_one v n ≡ 1
one_same v n e = ap (λ (b : Bool). cond {A = ℕ} b 1 0) (ap (λ x. nat_eq x v) e ∙ nat_eq-refl v)

one_other : (v n : ℕ) → (n ≡ v → ⊥) → is_one v n ≡ 0
one_other v n ne = at (nat_eq n v) refl
  where
    at : (b : Bool) → nat_eq n v ≡ b → ◌≡◌ {A = ℕ} (cond b 1 0) 0
    at true e = absurd (ne (nat_eq_is n v e))
    at false e = refl

one_most : (v n : ℕ) → is_one v n ≤ 1
one_most v n = at (nat_eq n v)
  where
    at : (b : Bool) → cond {A = ℕ} b 1 0 ≤ 1
    at true = omega (arith)
    at false = omega (arith)

module _ {X : Type 0} (f : X → ℕ) where
  abbrev Differ : X → X → Type 0
  Differ a b = f a ≡ f b → ⊥

  -- how many have this number
  abbrev count : ℕ → List X → ℕ
  count v xs = sum_by (λ x. is_one v (f x)) xs

  count_cons : (v : ℕ) (x : X) (xs : List X) → count v (x ∷ xs) ≡ is_one v (f x) + count v xs
  count_cons v x xs = sum_by-cons (λ y. is_one v (f y)) x xs

  count_none : (v : ℕ) (xs : List X) → ((x : X) → Contains xs x → f x ≡ v → ⊥) → count v xs ≡ 0
  count_none v [] nay = refl
  count_none v (x ∷ xs) nay =
      let h = count_cons v x xs in let z = one_other v (f x) (nay x (here x xs)) in let n = count_none v xs (λ y c. nay y (there x y xs c)) in omega (arith, h, z, n)

  count_most : (v : ℕ) (xs : List X) → AllPairs Differ xs → count v xs ≤ 1
  count_most v [] apart = let z : count v [] ≡ 0 = refl in omega (arith, z)
  count_most v (x ∷ xs) apart = at (nat_eq (f x) v) refl (count_most v xs (pairs_tail Differ x xs apart))
    where
      at : (b : Bool) → nat_eq (f x) v ≡ b → count v xs ≤ 1 → count v (x ∷ xs) ≤ 1
      at true e few =
          let same = nat_eq_is (f x) v e in
          let h = count_cons v x xs in let m = one_most v (f x) in
          let n = count_none v xs (λ y c is. pairs_in Differ x y xs apart c (same ∙ sym is)) in
          omega (arith, h, m, n)
      at false e few = let h = count_cons v x xs in let z = one_other v (f x) (λ is. differ e is) in omega (arith, h, z, few)
        where
          differ : nat_eq (f x) v ≡ false → f x ≡ v → ⊥
          differ nay is = let so = ap (λ n. nat_eq n v) is ∙ nat_eq-refl v in let w : true ≡ false = sym so ∙ nay in cc

  count_least : (v : ℕ) (xs : List X) (x : X) → Contains xs x → f x ≡ v → 1 ≤ count v xs
  count_least v [] x c is = absurd (not_in x c)
  count_least v (y ∷ xs) x c is = at (split y x xs c) (λ d. count_least v xs x d is)
    where
      at : (y ≡ x) ⊎ Contains xs x → (Contains xs x → 1 ≤ count v xs) → 1 ≤ count v (y ∷ xs)
      at (inl same) go = let h = count_cons v y xs in let one = one_same v (f y) (ap f same ∙ is) in omega (arith, h, one)
      at (inr later) go = let h = count_cons v y xs in let more = go later in omega (arith, h, more)

  apart_from : (xs : List X) → ((v : ℕ) → count v xs ≤ 1) → AllPairs Differ xs
  apart_from [] few = λ i j d low lt. absurd (omega (arith, lt))
  apart_from (x ∷ xs) few =
      pairs_cons Differ x xs
      (λ y c same. absurd (let h = count_cons (f x) x xs in let one = one_same (f x) (f x) refl in let more = count_least (f x) xs y c (sym same) in let all = few (f x) in omega (arith, h, one, more, all)))
      (apart_from xs (λ v. let h = count_cons v x xs in let all = few v in omega (arith, h, all)))

  -- elements that differ in f do so in another order
  pub apart_moved : (xs ys : List X) → IsPermutation xs ys → AllPairs Differ xs → AllPairs Differ ys
  apart_moved xs ys moved apart =
      apart_from ys (λ v. let same : count v ys ≡ count v xs = sum_by-IsPermutation (λ x. is_one v (f x)) xs ys moved in let few = count_most v xs apart in omega (arith, same, few))

  module _ (R : X → X → Ordering) (total : IsTotalOrder R) (tied : (x y : X) → R x y ≡ Equal → f x ≡ f y) where
    rises : (x y : X) (o : Ordering) → R x y ≡ o → is_lt (R y x) ≡ false → Differ x y → o ≡ Less
    rises x y Less e up differ = refl
    rises x y Equal e up differ = absurd (differ (tied x y e))
    rises x y Greater e up differ = let back : R y x ≡ Less = total.antisymm y x ∙ ap ordering_reverse e in let w : true ≡ false = sym (ap is_lt back) ∙ up in cc

    -- a sorted list of such elements rises
    pub sorted_rises : (xs : List X) → IsSorted R xs → AllPairs Differ xs → AllPairs (λ x y. R x y ≡ Less) xs
    sorted_rises xs up apart = λ i j d low lt.
        rises (get_or xs i d) (get_or xs j d) (R (get_or xs i d) (get_or xs j d)) refl (sorted_far (λ x y. is_lt (R x y)) (ranks_by total (λ x. x)) xs up i j d (omega (arith, low)) lt) (apart i j d low lt)
