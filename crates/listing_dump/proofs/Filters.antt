-- What a filter keeps where all that it keeps stand together.
use Rattle.std.proofs.Common.{◌≡◌, ◌⊎◌, inl, inr, ℕ, zero, suc, ◌-◌, ◌<◌, ◌≤◌, Bool, true, false, cond, List, [], ◌∷◌, refl, sym, ap, subst, ◌∙◌, arith}
use Rattle.std.specs.Prelude.{Some, map, filter, take, drop, AllPairs, Contains}
use Rattle.std.specs.List.{slice_get}
use Rattle.std.proofs.lemmas.Option.{get_or_from_slice_get, slice_get-get_or, slice_get_within}
use Rattle.list_lemmas.proofs.BoolTests.{not_Some, same_Some}
use Rattle.list_lemmas.proofs.ListMembers.{here, not_in, split, there}

-- an element has a place, and what has a place is an element
pub place_in : {X : Type 0} (xs : List X) (x : X) → Contains xs x → (i : ℕ) × (slice_get xs i ≡ Some x)
place_in xs x c = (c.0, slice_get-get_or xs c.0 x c.1 ∙ ap Some c.2)

pub in_place : {X : Type 0} (xs : List X) (i : ℕ) (x : X) → slice_get xs i ≡ Some x → Contains xs x
in_place xs i x is = (i, slice_get_within xs i x is, get_or_from_slice_get xs i x x is)

-- one of the first elements has a place among them
none_taken : {X : Type 0} (i : ℕ) (x : X) → Contains (take i []) x → ⊥
none_taken zero x c = not_in x c
none_taken (suc i) x c = not_in x c

first_place : {X : Type 0} (x y : X) (xs : List X) (i : ℕ) → (y ≡ x) ⊎ ((j : ℕ) × (j < i) × (slice_get xs j ≡ Some x)) → (j : ℕ) × (j < suc i) × (slice_get (y ∷ xs) j ≡ Some x)
first_place x y xs i (inl e) = (0, omega (arith), ap Some e)
first_place x y xs i (inr w) = (suc w.0, (let lt = w.1 in omega (arith, lt)), w.2)

in_front : {X : Type 0} (x : X) (xs : List X) (i : ℕ) {y : X} → (y ≡ x) ⊎ Contains (take i xs) x → (Contains (take i xs) x → (j : ℕ) × (j < i) × (slice_get xs j ≡ Some x)) → (y ≡ x) ⊎ ((j : ℕ) × (j < i) × (slice_get xs j ≡ Some x))
in_front x xs i (inl e) go = inl e
in_front x xs i (inr c) go = inr (go c)

pub take_place : {X : Type 0} (xs : List X) (i : ℕ) (x : X) → Contains (take i xs) x → (j : ℕ) × (j < i) × (slice_get xs j ≡ Some x)
take_place [] i x c = absurd (none_taken i x c)
take_place (y ∷ xs) zero x c = absurd (not_in x c)
take_place (y ∷ xs) (suc i) x c = first_place x y xs i (in_front x xs i (split y x (take i xs) c) (take_place xs i x))

pub place_take : {X : Type 0} (xs : List X) (i j : ℕ) (x : X) → slice_get xs j ≡ Some x → j < i → Contains (take i xs) x
place_take [] i j x is lt = absurd (not_Some x (sym is))
place_take (y ∷ xs) zero j x is lt = absurd (omega (arith, lt))
place_take (y ∷ xs) (suc i) zero x is lt = subst (Contains (y ∷ take i xs)) (same_Some y x is) (here y (take i xs))
place_take (y ∷ xs) (suc i) (suc j) x is lt = there y x (take i xs) (place_take xs i j x is (omega (arith, lt)))

-- what holds of each two holds of those at two places
pub pairs_get : {X : Type 0} (R : X → X → Type 0) (xs : List X) → AllPairs R xs → (i j : ℕ) (a b : X) → slice_get xs i ≡ Some a → slice_get xs j ≡ Some b → i < j → R a b
pairs_get {X} R xs up i j a b isa isb lt =
    let within = slice_get_within xs j b isb in
    let x = get_or_from_slice_get xs i a a isa in
    let y = get_or_from_slice_get xs j b a isb in
    subst (λ (p : X × X). R p.0 p.1) (λ k. (x k, y k)) (up i j a lt within)

nothing_taken : {X : Type 0} (n : ℕ) → ◌≡◌ {A = List X} [] (take n [])
nothing_taken zero = refl
nothing_taken (suc n) = refl

module _ {X : Type 0} (p : X → Bool) where
  abbrev Passes : List X → ℕ → ℕ → Type 0
  Passes xs from to = (i : ℕ) (x : X) → from ≤ i → i < to → slice_get xs i ≡ Some x → p x ≡ true

  abbrev Fails : List X → ℕ → ℕ → Type 0
  Fails xs from to = (i : ℕ) (x : X) → (i < from) ⊎ (to ≤ i) → slice_get xs i ≡ Some x → p x ≡ false

  kept : (x : X) (xs : List X) → p x ≡ true → filter p (x ∷ xs) ≡ x ∷ filter p xs
  kept x xs e = ap (λ b. cond b (x ∷ filter p xs) (filter p xs)) e

  left_out : (x : X) (xs : List X) → p x ≡ false → filter p (x ∷ xs) ≡ filter p xs
  left_out x xs e = ap (λ b. cond b (x ∷ filter p xs) (filter p xs)) e

  -- what passes stands at the front
  front_kept : (xs : List X) (to : ℕ) → Passes xs 0 to → Fails xs 0 to → filter p xs ≡ take to xs
  front_kept [] to so nay = nothing_taken to
  front_kept (x ∷ xs) zero so nay = left_out x xs (nay 0 x (inr (omega (arith))) refl) ∙ front_kept xs 0 (λ i y low lt. absurd (omega (arith, lt))) (λ i y out. nay (suc i) y (inr (omega (arith)))) ∙ none xs
    where
      none : (ys : List X) → take 0 ys ≡ []
      none [] = refl
      none (y ∷ ys) = refl
  front_kept (x ∷ xs) (suc to) so nay =
      kept x xs (so 0 x (omega (arith)) (omega (arith)) refl)
      ∙ ap (λ ys. x ∷ ys) (front_kept xs to (λ i y low lt. so (suc i) y (omega (arith)) (omega (arith, lt))) (λ i y out. nay (suc i) y (later i out)))
    where
      later : (i : ℕ) → (i < 0) ⊎ (to ≤ i) → (suc i < 0) ⊎ (suc to ≤ suc i)
      later i (inl lt) = absurd (omega (arith, lt))
      later i (inr le) = inr (omega (arith, le))

  -- what passes stands from one place up to another
  pub between_kept : (xs : List X) (from to : ℕ) → from ≤ to → Passes xs from to → Fails xs from to → filter p xs ≡ take (to - from) (drop from xs)
  between_kept xs zero to le so nay = front_kept xs to so nay ∙ ap (λ n. take n xs) (let e : to ≡ to - 0 = omega (arith) in e)
  between_kept [] (suc from) to le so nay = nothing_taken (to - suc from)
  between_kept (x ∷ xs) (suc from) to le so nay =
      left_out x xs (nay 0 x (inl (omega (arith))) refl)
      ∙ between_kept xs from (to - 1) (omega (arith, le)) (λ i y low lt. so (suc i) y (omega (arith, low)) (omega (arith, lt))) (λ i y out. nay (suc i) y (later i out))
      ∙ ap (λ n. take n (drop from xs)) (let e : (to - 1) - from ≡ to - suc from = omega (arith, le) in e)
    where
      later : (i : ℕ) → (i < from) ⊎ (to - 1 ≤ i) → (suc i < suc from) ⊎ (to ≤ suc i)
      later i (inl lt) = inl (omega (arith, lt))
      later i (inr ge) = inr (omega (arith, ge))

-- a filter before and behind a function
pub filter_map_same : {X Y Z : Type 0} (f : X → Y) (g : Y → Z) (p : Y → Bool) (q : X → Bool) → ((x : X) → p (f x) ≡ q x) → (xs : List X) → map g (filter p (map f xs)) ≡ map (λ x. g (f x)) (filter q xs)
filter_map_same f g p q same [] = refl
filter_map_same f g p q same (x ∷ xs) = at (p (f x)) (q x) refl refl (same x) (filter_map_same f g p q same xs)
  where
    at : (b c : Bool) → p (f x) ≡ b → q x ≡ c → b ≡ c → map g (filter p (map f xs)) ≡ map (λ y. g (f y)) (filter q xs) → map g (cond b (f x ∷ filter p (map f xs)) (filter p (map f xs))) ≡ map (λ y. g (f y)) (cond c (x ∷ filter q xs) (filter q xs))
    at true true pb qc bc go = ap (λ ys. g (f x) ∷ ys) go
    at false false pb qc bc go = go
    at true false pb qc bc go = cc
    at false true pb qc bc go = cc
