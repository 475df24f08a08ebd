-- The order of bytes: what is below what, what stands behind, and what is between two that begin alike.
use Rattle.std.proofs.Common.{◌≡◌, ◌⊎◌, inl, inr, ℕ, true, false, List, [], ◌∷◌, ◌++◌, refl, sym, ap, ◌∙◌, arith}
use Rattle.std.specs.declared.cmp.Ordering.{Ordering}
use Rattle.std.specs.declared.cmp.Ordering.TheVariants.{Less, Equal, Greater}
use Rattle.std.specs.Ordering.{nat_cmp, ordering_then, ordering_reverse, is_lt}
use Rattle.std.specs.Cmp.{nat_cmp_total, ranked, tied_itself, alike_right}
use Rattle.std.specs.Cmp.Lexicographic.{nat_list_cmp_total}
use Rattle.list_lemmas.specs.BytesOrder.{bytes_cmp}

-- ---- one order after another

pub then_assoc : (a b c : Ordering) → ordering_then a (ordering_then b c) ≡ ordering_then (ordering_then a b) c
then_assoc Less b c = refl
then_assoc Equal b c = refl
then_assoc Greater b c = refl

-- ---- below, and not below

pub less_or_not : (a b : List ℕ) → (bytes_cmp a b ≡ Less) ⊎ (is_lt (bytes_cmp a b) ≡ false)
less_or_not a b = at (bytes_cmp a b)
  where
    at : (r : Ordering) → (r ≡ Less) ⊎ (is_lt r ≡ false)
    at Less = inl refl
    at Equal = inr refl
    at Greater = inr refl

pub not_back : (a b : List ℕ) → bytes_cmp a b ≡ Less → is_lt (bytes_cmp b a) ≡ false
not_back a b e = ap is_lt (nat_list_cmp_total.antisymm b a) ∙ ap (λ r. is_lt (ordering_reverse r)) e

pub not_itself : (a : List ℕ) → bytes_cmp a a ≡ Less → ⊥
not_itself a e = let t = tied_itself nat_list_cmp_total a in cc

pub never_both : (a b : List ℕ) → bytes_cmp a b ≡ Less → bytes_cmp b a ≡ Less → ⊥
never_both a b e f = not_itself a (nat_list_cmp_total.trans a b a e f)

turned_back : (a b : List ℕ) → bytes_cmp a b ≡ Greater → is_lt (bytes_cmp b a) ≡ false → ⊥
turned_back a b e n = let t = ap is_lt (nat_list_cmp_total.antisymm b a) ∙ ap (λ r. is_lt (ordering_reverse r)) e in cc

-- what is above another is above all that this is not below
pub from_on_below : (a b c : List ℕ) → is_lt (bytes_cmp b a) ≡ false → bytes_cmp b c ≡ Less → bytes_cmp a c ≡ Less
from_on_below a b c n l = at (bytes_cmp a b) refl
  where
    at : (r : Ordering) → bytes_cmp a b ≡ r → bytes_cmp a c ≡ Less
    at Less e = nat_list_cmp_total.trans a b c e l
    at Equal e = nat_list_cmp_total.congr a b c e ∙ l
    at Greater e = absurd (turned_back a b e n)

pub below_from_on : (a b c : List ℕ) → bytes_cmp a b ≡ Less → is_lt (bytes_cmp c b) ≡ false → bytes_cmp a c ≡ Less
below_from_on a b c l n = at (bytes_cmp b c) refl
  where
    at : (r : Ordering) → bytes_cmp b c ≡ r → bytes_cmp a c ≡ Less
    at Less e = nat_list_cmp_total.trans a b c l e
    at Equal e = sym (alike_right nat_list_cmp_total b c a e) ∙ l
    at Greater e = absurd (turned_back b c e n)

-- what is not below another is not below all that this is not below
pub from_on_from_on : (a b c : List ℕ) → is_lt (bytes_cmp b a) ≡ false → is_lt (bytes_cmp c b) ≡ false → is_lt (bytes_cmp c a) ≡ false
from_on_from_on a b c n m = at (less_or_not c a)
  where
    at : (bytes_cmp c a ≡ Less) ⊎ (is_lt (bytes_cmp c a) ≡ false) → is_lt (bytes_cmp c a) ≡ false
    at (inl less) = let t : bytes_cmp c b ≡ Less = below_from_on c a b less n in absurd (impossible (bytes_cmp c b) t m)
      where
        impossible : (r : Ordering) → r ≡ Less → is_lt r ≡ false → ⊥
        impossible Less e f = cc
        impossible Equal e f = cc
        impossible Greater e f = cc
    at (inr not) = not

-- ---- the bytes behind these

-- the least bytes above these
abbrev pub behind : List ℕ → List ℕ
behind row = row ++ 0 ∷ []

not_below_zero : (y : ℕ) (o : Ordering) → is_lt o ≡ false → is_lt (ordering_then (nat_cmp y 0) o) ≡ false
not_below_zero y o below = at (nat_cmp y 0) refl
  where
    at : (r : Ordering) → r ≡ nat_cmp y 0 → is_lt (ordering_then r o) ≡ false
    at Less e = let under = ranked y 0 Less e in absurd (omega (arith, under))
    at Equal e = below
    at Greater e = refl

pub not_below_none : (ys : List ℕ) → is_lt (bytes_cmp ys []) ≡ false
not_below_none [] = refl
not_below_none (y ∷ ys) = refl

pub less_behind : (a b : List ℕ) → bytes_cmp a b ≡ Less → is_lt (bytes_cmp b (behind a)) ≡ false
less_behind [] [] e = cc
less_behind [] (y ∷ ys) e = not_below_zero y (bytes_cmp ys []) (not_below_none ys)
less_behind (x ∷ xs) [] e = cc
less_behind (x ∷ xs) (y ∷ ys) e = ap (λ r. is_lt (ordering_then r (bytes_cmp ys (behind xs)))) (nat_cmp_total.antisymm y x) ∙ at (nat_cmp x y) e (less_behind xs ys)
  where
    at : (r : Ordering) → ordering_then r (bytes_cmp xs ys) ≡ Less → (bytes_cmp xs ys ≡ Less → is_lt (bytes_cmp ys (behind xs)) ≡ false) → is_lt (ordering_then (ordering_reverse r) (bytes_cmp ys (behind xs))) ≡ false
    at Less e go = refl
    at Equal e go = go e
    at Greater e go = cc

-- bytes are below those behind them
pub below_behind : (a : List ℕ) → bytes_cmp a (behind a) ≡ Less
below_behind [] = refl
below_behind (x ∷ xs) = ap (λ o. ordering_then o (bytes_cmp xs (behind xs))) (tied_itself nat_cmp_total x) ∙ below_behind xs

-- what is between two that begin alike begins so
pub prefix_between : (m xs ys r : List ℕ) → is_lt (bytes_cmp r (m ++ xs)) ≡ false → is_lt (bytes_cmp r (m ++ ys)) ≡ true → (rest : List ℕ) × (r ≡ m ++ rest)
prefix_between [] xs ys r a b = (r, refl)
prefix_between (x ∷ m) xs ys [] a b = absurd cc
prefix_between (x ∷ m) xs ys (y ∷ r) a b = at (nat_cmp y x) refl a b (prefix_between m xs ys r)
  where
    at : (o : Ordering) → o ≡ nat_cmp y x → is_lt (ordering_then o (bytes_cmp r (m ++ xs))) ≡ false → is_lt (ordering_then o (bytes_cmp r (m ++ ys))) ≡ true
        → (is_lt (bytes_cmp r (m ++ xs)) ≡ false → is_lt (bytes_cmp r (m ++ ys)) ≡ true → (rest : List ℕ) × (r ≡ m ++ rest)) → (rest : List ℕ) × (y ∷ r ≡ (x ∷ m) ++ rest)
    at Less e a b go = absurd cc
    at Equal e a b go = let w = go a b in let same : y ≡ x = ranked y x Equal e in (w.0, λ i. same i ∷ w.1 i)
    at Greater e a b go = absurd cc
