-- Two lists that rise in an order, and have the same elements, are one.
use Rattle.std.proofs.Common.{◌≡◌, inl, inr, suc, List, [], ◌∷◌, refl, sym, subst, ◌∙◌, arith}
use Rattle.std.specs.Prelude.{AllPairs, Contains}
use Rattle.list_lemmas.proofs.ListMembers.{here, there, split}

-- two lists that rise in an order without circles, and have the same elements, are one
module _ {A : Type 0} (R : A → A → Type 0) (asym : (x y : A) → R x y → R y x → ⊥) where
  head_below : (x y : A) (xs : List A) → AllPairs R (x ∷ xs) → Contains xs y → R x y
  head_below x y xs up (k, lt, is) = subst (R x) is (up 0 (suc k) y (omega arith) (omega (arith, lt)))

  tail_rises : (x : A) (xs : List A) → AllPairs R (x ∷ xs) → AllPairs R xs
  tail_rises x xs up i j d lt within = up (suc i) (suc j) d (omega (arith, lt)) (omega (arith, within))

  heads : (x y : A) (xs ys : List A) → AllPairs R (x ∷ xs) → AllPairs R (y ∷ ys) → Contains (y ∷ ys) x → Contains (x ∷ xs) y → x ≡ y
  heads x y xs ys ux uy cx cy =
      elim (split y x ys cx) [
        | inl same ↦ sym same
        | inr later ↦ elim (split x y xs cy) [
          | inl same ↦ same
          | inr after ↦ absurd (asym x y (head_below x y xs ux after) (head_below y x ys uy later))
        ]
      ]

  not_again : (x : A) (xs : List A) → AllPairs R (x ∷ xs) → Contains xs x → ⊥
  not_again x xs up c = let r = head_below x x xs up c in asym x x r r

  in_tail : (x y z : A) (xs ys : List A) → x ≡ y → AllPairs R (x ∷ xs) → Contains xs z → Contains (y ∷ ys) z → Contains ys z
  in_tail x y z xs ys same up here c =
      elim (split y z ys c) [
        | inl is ↦ absurd (not_again x xs up (subst (Contains xs) (sym (same ∙ is)) here))
        | inr later ↦ later
      ]

  pub same_rising : (xs ys : List A) → AllPairs R xs → AllPairs R ys → ((z : A) → Contains xs z → Contains ys z) → ((z : A) → Contains ys z → Contains xs z) → xs ≡ ys
  same_rising [] [] ux uy f g = refl
  same_rising [] (y ∷ ys) ux uy f g = let c = g y (here y ys) in absurd (omega (arith, c.1))
  same_rising (x ∷ xs) [] ux uy f g = let c = f x (here x xs) in absurd (omega (arith, c.1))
  same_rising (x ∷ xs) (y ∷ ys) ux uy f g =
      let same = heads x y xs ys ux uy (f x (here x xs)) (g y (here y ys)) in
      let rest = same_rising xs ys (tail_rises x xs ux) (tail_rises y ys uy)
      (λ z c. in_tail x y z xs ys same ux c (f z (there x z xs c)))
      (λ z c. in_tail y x z ys xs (sym same) uy c (g z (there y z ys c))) in
      λ i. same i ∷ rest i
