-- Members of lists.
use Rattle.std.proofs.Common.{◌≡◌, ◌⊎◌, inl, inr, ℕ, zero, suc, ◌<◌, List, [], ◌∷◌, length, refl, subst, arith}
use Rattle.std.specs.Prelude.{All, AllPairs, Contains, slice_index_or, map, ◌++◌}

pub here : {X : Type 0} (x : X) (xs : List X) → Contains (x ∷ xs) x
here x xs = (0, omega arith, refl)

pub there : {X : Type 0} (x y : X) (xs : List X) → Contains xs y → Contains (x ∷ xs) y
there x y xs c = (suc c.0, omega (arith, c.1), c.2)

pub split : {X : Type 0} (x y : X) (xs : List X) → Contains (x ∷ xs) y → (x ≡ y) ⊎ Contains xs y
split x y xs c = at c.0 c.1 c.2
  where
    at : (k : ℕ) → k < length (x ∷ xs) → slice_index_or (x ∷ xs) k y ≡ y → (x ≡ y) ⊎ Contains xs y
    at zero lt is = inl is
    at (suc k) lt is = inr (k, omega (arith, lt), is)

pub not_in : {X : Type 0} (y : X) → Contains [] y → ⊥
not_in y c = omega (arith, c.1)

pub all_in : {X : Type 0} (P : X → Type 0) (x : X) (xs : List X) → All P xs → Contains xs x → P x
all_in P x xs all c = subst P c.2 (all c.0 x c.1)

pub pairs_in : {X : Type 0} (R : X → X → Type 0) (x y : X) (xs : List X) → AllPairs R (x ∷ xs) → Contains xs y → R x y
pairs_in R x y xs pairs c = subst (R x) c.2 (pairs 0 (suc c.0) y (omega arith) (omega (arith, c.1)))

pub pairs_tail : {X : Type 0} (R : X → X → Type 0) (x : X) (xs : List X) → AllPairs R (x ∷ xs) → AllPairs R xs
pairs_tail R x xs pairs i j d lt in_range = pairs (suc i) (suc j) d (omega (arith, lt)) (omega (arith, in_range))

-- a member of a map is the image of a member
pub map_in : {X Y : Type 0} (f : X → Y) (xs : List X) (y : Y) → Contains (map f xs) y → (x : X) × Contains xs x × (f x ≡ y)
map_in f [] y c = absurd (not_in y c)
map_in {X = X} f (x ∷ xs) y c = at (split (f x) y (map f xs) c) (map_in f xs y)
  where
    at : (f x ≡ y) ⊎ Contains (map f xs) y → (Contains (map f xs) y → (z : X) × Contains xs z × (f z ≡ y)) → (z : X) × Contains (x ∷ xs) z × (f z ≡ y)
    at (inl same) go = (x, here x xs, same)
    at (inr c) go = let w = go c in (w.0, there x w.0 xs w.1, w.2)

pub in_map : {X Y : Type 0} (f : X → Y) (xs : List X) (x : X) → Contains xs x → Contains (map f xs) (f x)
in_map f [] x c = absurd (not_in x c)
in_map f (z ∷ xs) x c = at (split z x xs c) (in_map f xs x)
  where
    at : (z ≡ x) ⊎ Contains xs x → (Contains xs x → Contains (map f xs) (f x)) → Contains (f z ∷ map f xs) (f x)
    at (inl same) go = subst (λ w. Contains (f z ∷ map f xs) (f w)) same (here (f z) (map f xs))
    at (inr c) go = there (f z) (f x) (map f xs) (go c)

-- what begins two equal lists with the same length is one
pub prefix_one : (a b x y : List ℕ) → length a ≡ length b → a ++ x ≡ b ++ y → (a ≡ b) × (x ≡ y)
prefix_one [] [] x y l e = (refl, e)
prefix_one [] (c ∷ b) x y l e = absurd (omega (arith, l))
prefix_one (c ∷ a) [] x y l e = absurd (omega (arith, l))
prefix_one (c ∷ a) (d ∷ b) x y l e =
    let h : c ≡ d = cc in
    let t : a ++ x ≡ b ++ y = cc in
    let w = prefix_one a b x y (omega (arith, l)) t in
    (λ k. h k ∷ w.0 k, w.1)
