-- What a test that holds says: of two Bools, of an ordering, of two numbers, and of what is there.
use Rattle.std.proofs.Common.{◌≡◌, ◌≢◌, ℕ, Bool, true, false, ◌&&◌, T, refl, sym, ap, ◌∙◌, rules}
use Rattle.std.specs.Prelude.{Some, None, nat_eq}
use Rattle.std.specs.declared.cmp.Ordering.{Ordering}
use Rattle.std.specs.declared.cmp.Ordering.TheVariants.{Less, Equal, Greater}
use Rattle.std.specs.Ordering.{is_lt, is_eq}

-- ---- two Bools

pub T_left : (a b : Bool) → T (a && b) → T a
T_left true b t = tt
T_left false b t = t

pub T_right : (a b : Bool) → T (a && b) → T b
T_right true b t = t
T_right false b t = absurd t

pub T_both : (a b : Bool) → T a → T b → T (a && b)
T_both true b s t = t
T_both false b s t = absurd s

pub both_true : (a b : Bool) → (a && b) ≡ true → (a ≡ true) × (b ≡ true)
both_true true b e = (refl, e)
both_true false b e = absurd cc

-- ---- an ordering

pub is_equal : (o : Ordering) → is_eq o ≡ true → o ≡ Equal
is_equal Less e = absurd cc
is_equal Equal e = refl
is_equal Greater e = absurd cc

pub T_less : (o : Ordering) → T (is_lt o) → o ≡ Less
T_less Less t = refl
T_less Equal t = absurd t
T_less Greater t = absurd t

pub less_if : (o : Ordering) → is_lt o ≡ true → o ≡ Less
less_if Less e = refl
less_if Equal e = absurd cc
less_if Greater e = absurd cc

-- ---- two numbers

pub nat_eq_is : (a b : ℕ) → nat_eq a b ≡ true → a ≡ b
nat_eq_is a b e = search (rules, e)

pub nat_eq-refl : (n : ℕ) → nat_eq n n ≡ true
nat_eq-refl n = search rules

pub nat_eq-same : (a b : ℕ) → a ≡ b → nat_eq a b ≡ true
nat_eq-same a b e = ap (nat_eq a) (sym e) ∙ nat_eq-refl a

-- ---- what is there

pub not_Some : {A : Type 0} (x : A) → Some x ≢ None
not_Some x e = cc

pub same_Some : {A : Type 0} (x y : A) → Some x ≡ Some y → x ≡ y
same_Some x y e = cc
