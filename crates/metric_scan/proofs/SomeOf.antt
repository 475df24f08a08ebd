-- Whether some element of a list passes a test.
use Rattle.std.proofs.Common.{◌≡◌, ◌⊎◌, inl, inr, Bool, true, false, ◌||◌, List, [], ◌∷◌, refl, ap, ◌∙◌, arith}
use Rattle.std.specs.Prelude.{Contains}
use Rattle.std.specs.List.{list_any}
use Rattle.list_lemmas.proofs.ListMembers.{here, there, split, not_in}

false_is_not_true : false ≡ true → ⊥
false_is_not_true is = absurd (grind (arith, is))

pub in_any : {X : Type 0} (passes : X → Bool) (x : X) (xs : List X) → Contains xs x → passes x ≡ true → list_any passes xs ≡ true
in_any passes x [] among e = absurd (not_in x among)
in_any {X} passes x (y ∷ xs) among e = at (split y x xs among) (λ c. in_any passes x xs c e)
  where
    or_true : (b : Bool) → (b || true) ≡ true
    or_true true = refl
    or_true false = refl

    at : (y ≡ x) ⊎ Contains xs x → (Contains xs x → list_any passes xs ≡ true) → (passes y || list_any passes xs) ≡ true
    at (inl same) rest = ap (λ b. b || list_any passes xs) (ap passes same ∙ e)
    at (inr c) rest = ap (λ b. passes y || b) (rest c) ∙ or_true (passes y)

pub any_in : {X : Type 0} (passes : X → Bool) (xs : List X) → list_any passes xs ≡ true → (x : X) × Contains xs x × (passes x ≡ true)
any_in passes [] e = absurd (false_is_not_true e)
any_in {X} passes (y ∷ xs) e = at (passes y) refl e (any_in passes xs)
  where
    at : (b : Bool) → passes y ≡ b → (b || list_any passes xs) ≡ true → (list_any passes xs ≡ true → (x : X) × Contains xs x × (passes x ≡ true)) → (x : X) × Contains (y ∷ xs) x × (passes x ≡ true)
    at true is h rest = (y, here y xs, is)
    at false is h rest = let w = rest h in (w.0, there y w.0 xs w.1, w.2)
