-- The first bad filter.
use Rattle.std.proofs.Common.{◌≡◌, ◌⊎◌, ℕ, suc, ◌+◌, ◌<◌, ◌≤◌, Bool, true, false, cond, ltb, List, All, map, take, length, get_or, zero, Some, None, [], ◌∷◌, refl, sym, ap, ◌∙◌, arith, inl, inr, ⊎_elim}
use Rattle.std.specs.Prelude.{position}
use Rattle.std.specs.List.{position_or_len, list_all}
use Rattle.std.proofs.lemmas.Bool.{cond-true, cond-false, lt-ltb, cases_lt, and_left, and_right}
use Rattle.std.proofs.lemmas.List.{length-map, length-take-le, take_all}
use Rattle.std.proofs.lemmas.Bool.Decides.{nat_tests}
use Rattle.std.proofs.lemmas.List.Sums.{position_or_len_is}

-- none of the first so many passes
abbrev pub NoneOf : {X : Type 0} → (X → Bool) → List X → ℕ → Type 0
NoneOf {X} p xs n = (k : ℕ) (d : X) → k < n → p (get_or xs k d) ≡ false

pub none_yet : {X : Type 0} (p : X → Bool) (xs : List X) (n : ℕ) → n ≡ 0 → NoneOf p xs n
none_yet p xs n e k d lt = absurd (omega (arith, e, lt))

pub none_more : {X : Type 0} (p : X → Bool) (xs : List X) (n : ℕ) → NoneOf p xs n → ((d : X) → p (get_or xs n d) ≡ false) → NoneOf p xs (n + 1)
none_more p xs n before here k d lt = ⊎_elim (λ less. before k d less) (λ at. ap (λ (i : ℕ). p (get_or xs i d)) at ∙ here d) (below (k) n lt)
  where
    below : (k n : ℕ) → k < n + 1 → (k < n) ⊎ (k ≡ n)
    below k n lt = cases k n lt (cases_lt k n)
      where
        cases : (k n : ℕ) → k < n + 1 → (k < n) ⊎ (n ≤ k) → (k < n) ⊎ (k ≡ n)
        cases k n lt (inl less) = inl less
        cases k n lt (inr ge) = inr (omega (arith, lt, ge))

pub first_at : {X : Type 0} (p : X → Bool) (xs : List X) (n : ℕ) (d : X) → n < length xs → NoneOf p xs n → p (get_or xs n d) ≡ true → position p xs ≡ Some n
first_at p xs n d within before here =
    let is : position_or_len p xs ≡ n = position_or_len_is p xs n d (omega (arith, within)) (λ k lt. before k d lt) (λ in_. here) in
    cond-true _ _ _ (lt-ltb (position_or_len p xs) (length xs) (omega (arith, is, within))) ∙ ap Some is

pub first_nowhere : {X : Type 0} (p : X → Bool) (xs : List X) (n : ℕ) → length xs ≤ n → NoneOf p xs n → position p xs ≡ None
first_nowhere p xs n all before =
    cond-false _ _ _ (at (position_or_len_is_end p xs n all before))
  where
    position_or_len_is_end : {X : Type 0} (p : X → Bool) (xs : List X) (n : ℕ) → length xs ≤ n → NoneOf p xs n → position_or_len p xs ≡ length xs
    position_or_len_is_end p [] n all before = refl
    position_or_len_is_end p (x ∷ xs) n all before = position_or_len_is p (x ∷ xs) (length (x ∷ xs)) x (omega arith) (λ k lt. before k x (omega (arith, lt, all))) (λ lt. absurd (omega (arith, lt)))

    at : position_or_len p xs ≡ length xs → ltb (position_or_len p xs) (length xs) ≡ false
    at e = grind (arith, nat_tests, e)

-- the list that was made is as long as the elements that were looked at
module _ {X Y : Type 0} (f : X → Y) (list : List X) (p : Y → Bool) (ys : List Y) (i : ℕ) (made : map f list ≡ take i ys) (before : NoneOf p ys i) where
  pub bad_here : (y : Y) (count : ℕ) → i < length ys → y ≡ get_or ys i y → p y ≡ true → length list ≡ count → position p ys ≡ Some count
  bad_here y count within is bad len =
      let same : i ≡ count = sym (length-take-le i ys (omega (arith, within))) ∙ ap length (sym made) ∙ length-map list f ∙ len in
      first_at p ys i y within before (ap p (sym is) ∙ bad) ∙ ap Some same

  pub all_made : length ys ≤ i → (map f list ≡ ys) × (position p ys ≡ None)
  all_made all = (made ∙ take_all i ys all, first_nowhere p ys i all before)

-- one of the list fails
pub one_fails : {X Y : Type 0} (p : Y → Bool) (f : X → Y) (xs : List X) (i : ℕ) (x : X) → i < length xs → p (f (get_or xs i x)) ≡ false → list_all p (map f xs) ≡ false
one_fails p f [] i x within e = absurd (omega (arith, within))
one_fails p f (y ∷ xs) zero x within e = and_left _ _ e
one_fails p f (y ∷ xs) (suc i) x within e = and_right _ _ (one_fails p f xs i x (omega (arith, within)) e)
