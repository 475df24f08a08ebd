-- Lists: what a filter keeps, and what stands before and behind an element.
use Rattle.std.proofs.Common.{◌≡◌, ◌⊎◌, inl, inr, ◌+◌, Bool, true, false, cond, List, [], ◌∷◌, ◌++◌, length, refl, sym, ap, subst, ◌∙◌, arith}
use Rattle.std.specs.Prelude.{All, AllPairs, Contains, filter, slice_set}
use Rattle.std.proofs.lemmas.List.Elements.{Contains-append_left, Contains-push_cases, All-cons, All-nil}
use Rattle.std.proofs.lemmas.List.Kept.{AllPairs-cons}
use Rattle.list_lemmas.proofs.ListMembers.{here, there, split, not_in, pairs_in, pairs_tail}

-- what a filter keeps was there, and passes
pub in_filter : {X : Type 0} (p : X → Bool) (xs : List X) (x : X) → Contains (filter p xs) x → Contains xs x × (p x ≡ true)
in_filter {X = X} p [] x c = absurd (not_in x c)
in_filter {X = X} p (y ∷ xs) x c = at (p y) refl c (in_filter p xs x)
  where
    at : (b : Bool) → p y ≡ b → Contains (cond b (y ∷ filter p xs) (filter p xs)) x → (Contains (filter p xs) x → Contains xs x × (p x ≡ true)) → Contains (y ∷ xs) x × (p x ≡ true)
    at true e c go = elim (split y x (filter p xs) c) [ inl same ↦ (subst (Contains (y ∷ xs)) same (here y xs), ap p (sym same) ∙ e) | inr later ↦ let w = go later in (there y x xs w.0, w.1) ]
    at false e c go = let w = go c in (there y x xs w.0, w.1)

-- and what was there and passes is kept
pub to_filter : {X : Type 0} (p : X → Bool) (xs : List X) (x : X) → Contains xs x → p x ≡ true → Contains (filter p xs) x
to_filter p [] x c e = absurd (not_in x c)
to_filter p (y ∷ xs) x c e = at (p y) refl (split y x xs c) (λ i. to_filter p xs x i e)
  where
    at : (b : Bool) → p y ≡ b → (y ≡ x) ⊎ Contains xs x → (Contains xs x → Contains (filter p xs) x) → Contains (cond b (y ∷ filter p xs) (filter p xs)) x
    at true f (inl same) go = subst (Contains (y ∷ filter p xs)) same (here y (filter p xs))
    at true f (inr later) go = there y x (filter p xs) (go later)
    at false f (inl same) go = let w : p x ≡ false = ap p (sym same) ∙ f in cc
    at false f (inr later) go = go later

pub all_of : {X : Type 0} (P : X → Type 0) (xs : List X) → ((x : X) → Contains xs x → P x) → All P xs
all_of P [] h = All-nil P
all_of P (x ∷ xs) h = All-cons P x xs (h x (here x xs)) (all_of P xs (λ y c. h y (there x y xs c)))

-- one more element behind pairs that are so
pub pairs_push : {X : Type 0} (R : X → X → Type 0) (xs : List X) (y : X) → AllPairs R xs → ((x : X) → Contains xs x → R x y) → AllPairs R (xs ++ y ∷ [])
pairs_push {X = X} R [] y pairs up = λ i j d lt within. absurd (omega (arith, lt, within))
pairs_push {X = X} R (x ∷ xs) y pairs up =
    AllPairs-cons R x (xs ++ y ∷ []) (all_of (R x) (xs ++ y ∷ []) (λ z c. at z (Contains-push_cases xs y z c)))
    (pairs_push R xs y (pairs_tail R x xs pairs) (λ z c. up z (there x z xs c)))
  where
    at : (z : X) → Contains xs z ⊎ (y ≡ z) → R x z
    at z (inl c) = pairs_in R x z xs pairs c
    at z (inr same) = subst (R x) same (up x (here x xs))

-- of pairs that are so, those before an element, and what they are with it
pub pairs_before : {X : Type 0} (R : X → X → Type 0) (xs : List X) (y : X) (ys : List X) → AllPairs R (xs ++ y ∷ ys) → (x : X) → Contains xs x → R x y
pairs_before {X = X} R [] y ys pairs x c = absurd (not_in x c)
pairs_before {X = X} R (z ∷ xs) y ys pairs x c = at (split z x xs c) (pairs_before R xs y ys (pairs_tail R z (xs ++ y ∷ ys) pairs) x)
  where
    last : (zs : List X) → Contains (zs ++ y ∷ ys) y
    last [] = here y ys
    last (w ∷ zs) = there w y (zs ++ y ∷ ys) (last zs)

    at : (z ≡ x) ⊎ Contains xs x → (Contains xs x → R x y) → R x y
    at (inl same) go = subst (λ (w : X). R w y) same (pairs_in R z y (xs ++ y ∷ ys) pairs (last xs))
    at (inr later) go = go later

pub pairs_behind : {X : Type 0} (R : X → X → Type 0) (xs : List X) (y : X) (ys : List X) → AllPairs R (xs ++ y ∷ ys) → (z : X) → Contains ys z → R y z
pairs_behind R [] y ys pairs z c = pairs_in R y z ys pairs c
pairs_behind R (x ∷ xs) y ys pairs z c = pairs_behind R xs y ys (pairs_tail R x (xs ++ y ∷ ys) pairs) z c

pub pairs_front : {X : Type 0} (R : X → X → Type 0) (xs ys : List X) → AllPairs R (xs ++ ys) → AllPairs R xs
pairs_front R [] ys pairs = λ i j d lt within. absurd (omega (arith, within))
pairs_front R (x ∷ xs) ys pairs =
    AllPairs-cons R x xs (all_of (R x) xs (λ z c. pairs_in R x z (xs ++ ys) pairs (Contains-append_left xs ys z c))) (pairs_front R xs ys (pairs_tail R x (xs ++ ys) pairs))

-- a list is empty or has a last element
pub record HasLast {X : Type 0} (xs : List X) : Type 0 where
  pub front : List X
  pub last : X
  pub parts : xs ≡ front ++ last ∷ []

pub empty_or_last : {X : Type 0} (xs : List X) → (xs ≡ []) ⊎ HasLast xs
empty_or_last {X = X} [] = inl refl
empty_or_last {X = X} (x ∷ xs) = at (empty_or_last xs)
  where
    at : (xs ≡ []) ⊎ HasLast xs → (x ∷ xs ≡ []) ⊎ HasLast (x ∷ xs)
    at (inl none) = inr (record { front = []; last = x; parts = ap (λ l. x ∷ l) none })
    at (inr w) = inr (record { front = x ∷ w.front; last = w.last; parts = ap (λ l. x ∷ l) w.parts })

-- the last element is set
pub set_last : {X : Type 0} (xs : List X) (y z : X) → slice_set (xs ++ y ∷ []) (length xs) z ≡ xs ++ z ∷ []
set_last [] y z = refl
set_last (x ∷ xs) y z = ap (λ l. x ∷ l) (set_last xs y z)

pub length_push : {X : Type 0} (xs : List X) (y : X) → length (xs ++ y ∷ []) ≡ length xs + 1
length_push [] y = refl
length_push (x ∷ xs) y = let more = length_push xs y in omega (arith, more)

-- one more element in front of pairs that are so
pub pairs_cons : {X : Type 0} (R : X → X → Type 0) (x : X) (xs : List X) → ((y : X) → Contains xs y → R x y) → AllPairs R xs → AllPairs R (x ∷ xs)
pairs_cons R x xs h up = AllPairs-cons R x xs (all_of (R x) xs h) up
