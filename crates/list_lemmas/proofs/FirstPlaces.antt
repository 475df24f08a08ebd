-- The first place of a list at which an element passes a test.
use Rattle.std.proofs.Common.{◌≡◌, ℕ, suc, ◌+◌, ◌<◌, Bool, true, false, cond, ltb, List, [], ◌∷◌, length, Some, None, refl, sym, ◌∙◌, inl, inr, arith}
use Rattle.std.specs.Prelude.{position}
use Rattle.std.specs.List.{list_any, position_or_len}
use Rattle.std.proofs.lemmas.Bool.{cases_Bool, ltb-true}
use Rattle.std.proofs.lemmas.Bool.Decides.{nat_tests}

one_further : (b : Bool) (m n : ℕ) → b ≡ ltb m n → b ≡ ltb (1 + m) (suc n)
one_further b m n e = grind (arith, nat_tests)

at_once : (n : ℕ) → true ≡ ltb 0 (suc n)
at_once n = grind (arith, nat_tests)

-- an element passes where there is a first place of one
list_any-place : {X : Type 0} (p : X → Bool) (xs : List X) → list_any p xs ≡ ltb (position_or_len p xs) (length xs)
list_any-place p [] = refl
list_any-place p (x ∷ xs) = elim (cases_Bool (p x)) [
  | inl e ↦ rw e (at_once (length xs))
  | inr e ↦ rw e (one_further _ _ _ (list_any-place p xs))
]

place_by : (b : Bool) (i n : ℕ) → cond b (Some i) None ≡ Some n → (b ≡ true) × (i ≡ n)
place_by true i n e = (refl, cc)
place_by false i n e = absurd cc

no_place_by : (b : Bool) (i : ℕ) → cond b (Some i) None ≡ None → b ≡ false
no_place_by true i e = absurd cc
no_place_by false i e = refl

pub list_any-position : {X : Type 0} (p : X → Bool) (xs : List X) (at : ℕ) → Some at ≡ position p xs → (list_any p xs ≡ true) × (position_or_len p xs ≡ at) × (at < length xs)
list_any-position p xs at e =
    let h = place_by (ltb (position_or_len p xs) (length xs)) (position_or_len p xs) at (sym e) in
    let lt : position_or_len p xs < length xs = ltb-true _ _ h.0 in
    (list_any-place p xs ∙ h.0, h.1, rw (← h.1) lt)

pub list_any-no_position : {X : Type 0} (p : X → Bool) (xs : List X) → None ≡ position p xs → list_any p xs ≡ false
list_any-no_position p xs e = list_any-place p xs ∙ no_place_by (ltb (position_or_len p xs) (length xs)) (position_or_len p xs) (sym e)
