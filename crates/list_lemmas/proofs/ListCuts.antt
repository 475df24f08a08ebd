-- Lists one behind the other, the first elements of a list, and how many different ones it has.
use Rattle.std.proofs.Common.{◌≡◌, ◌≢◌, ◌⊎◌, inl, inr, ℕ, zero, suc, ◌+◌, ◌≤◌, ◌<◌, Bool, true, false, cond, List, [], ◌∷◌, ◌++◌, length, get_or, map, refl, sym, ap, ◌∙◌, arith}
use Rattle.std.specs.Prelude.{AllPairs, Contains, filter, take, slice_index_or}
use Rattle.list_lemmas.proofs.ListMembers.{here, there, pairs_in, pairs_tail}

-- ---- one behind the other

pub nothing_behind : {A : Type 0} (xs : List A) → xs ++ [] ≡ xs
nothing_behind [] = refl
nothing_behind {A = A} (x ∷ xs) = ap (λ (l : List A). x ∷ l) (nothing_behind xs)

pub joined : {A : Type 0} (xs ys zs : List A) → (xs ++ ys) ++ zs ≡ xs ++ (ys ++ zs)
joined [] ys zs = refl
joined {A = A} (x ∷ xs) ys zs = ap (λ (l : List A). x ∷ l) (joined xs ys zs)

pub map_join : {A B : Type 0} (f : A → B) (xs ys : List A) → map f (xs ++ ys) ≡ map f xs ++ map f ys
map_join f [] ys = refl
map_join {B = B} f (x ∷ xs) ys = ap (λ (l : List B). f x ∷ l) (map_join f xs ys)

pub filter_join : {A : Type 0} (p : A → Bool) (xs ys : List A) → filter p (xs ++ ys) ≡ filter p xs ++ filter p ys
filter_join p [] ys = refl
filter_join {A = A} p (x ∷ xs) ys = at (p x) (filter_join p xs ys)
  where
    at : (b : Bool) → filter p (xs ++ ys) ≡ filter p xs ++ filter p ys → cond b (x ∷ filter p (xs ++ ys)) (filter p (xs ++ ys)) ≡ cond b (x ∷ filter p xs) (filter p xs) ++ filter p ys
    at true e = ap (λ (l : List A). x ∷ l) e
    at false e = e

-- tests that answer alike keep the same
pub filter_alike : {A : Type 0} (p q : A → Bool) → ((x : A) → p x ≡ q x) → (xs : List A) → filter p xs ≡ filter q xs
filter_alike p q e [] = refl
filter_alike {A = A} p q e (x ∷ xs) = λ i. cond (e x i) (x ∷ filter_alike p q e xs i) (filter_alike p q e xs i)

-- ---- the first elements

-- one more of a list
pub take_next : {A : Type 0} (xs : List A) (i : ℕ) (d : A) → i < length xs → take (i + 1) xs ≡ take i xs ++ slice_index_or xs i d ∷ []
take_next {A = A} xs i d lt = ap (λ (n : ℕ). take n xs) (one i) ∙ next xs i lt
  where
    one : (i : ℕ) → i + 1 ≡ suc i
    one i = omega arith

    next : (xs : List A) (i : ℕ) → i < length xs → take (suc i) xs ≡ take i xs ++ slice_index_or xs i d ∷ []
    next [] i lt = absurd (omega (arith, lt))
    next (x ∷ xs) zero lt = none xs
      where
        none : (xs : List A) → x ∷ take 0 xs ≡ x ∷ []
        none [] = refl
        none (y ∷ xs) = refl
    next (x ∷ xs) (suc i) lt = ap (λ (l : List A). x ∷ l) (next xs i (omega (arith, lt)))

pub take_none : {A : Type 0} (xs : List A) → take 0 xs ≡ []
take_none [] = refl
take_none (x ∷ xs) = refl

pub take_whole : {A : Type 0} (xs : List A) (i : ℕ) → length xs ≤ i → take i xs ≡ xs
take_whole [] zero le = refl
take_whole [] (suc i) le = refl
take_whole (x ∷ xs) zero le = absurd (omega (arith, le))
take_whole {A = A} (x ∷ xs) (suc i) le = ap (λ (l : List A). x ∷ l) (take_whole xs i (omega (arith, le)))

-- ---- how many

-- the list without the element at a place
pub without : {A : Type 0} → ℕ → List A → List A
without k [] = []
without zero (x ∷ xs) = xs
without (suc k) (x ∷ xs) = x ∷ without k xs

pub length_without : {A : Type 0} (k : ℕ) (xs : List A) → k < length xs → length (without k xs) + 1 ≡ length xs
unfolding without
length_without k [] lt = absurd (omega (arith, lt))
length_without zero (x ∷ xs) lt = omega arith
length_without (suc k) (x ∷ xs) lt = let more = length_without k xs (omega (arith, lt)) in omega (arith, more)

-- each other element is in it
pub in_without : {A : Type 0} (k : ℕ) (xs : List A) (d y : A) → k < length xs → get_or xs k d ≡ d → Contains xs y → (d ≡ y) ⊎ Contains (without k xs) y
unfolding without
in_without k [] d y lt is c = absurd (omega (arith, lt))
in_without zero (x ∷ xs) d y lt is (zero, l, e) = inl (sym is ∙ e)
in_without zero (x ∷ xs) d y lt is (suc j, l, e) = inr (j, omega (arith, l), e)
in_without (suc k) (x ∷ xs) d y lt is (zero, l, e) = inr (0, omega arith, e)
in_without (suc k) (x ∷ xs) d y lt is (suc j, l, e) =
    elim (in_without k xs d y (omega (arith, lt)) is (j, omega (arith, l), e)) [ inl same ↦ inl same | inr c ↦ inr (there x y (without k xs) c) ]

-- different elements of a list are no more than it has
pub fewer : {A : Type 0} (xs ys : List A) → AllPairs (λ (a b : A). a ≢ b) xs → ((x : A) → Contains xs x → Contains ys x) → length xs ≤ length ys
fewer [] ys up within = omega arith
fewer {A} (x ∷ xs) ys up within =
    let at = within x (here x xs) in
    let shorter = length_without at.0 ys at.1 in
    let rest = fewer xs (without at.0 ys) (pairs_tail (λ (a b : A). a ≢ b) x xs up) (λ y c.
    elim (in_without at.0 ys x y at.1 at.2 (within y (there x y xs c))) [ inl same ↦ absurd (pairs_in (λ (a b : A). a ≢ b) x y xs up c same) | inr later ↦ later ]) in
    omega (arith, shorter, rest)
