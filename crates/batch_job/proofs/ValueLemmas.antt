-- The value at a time, and what a list has.
use Rattle.std.proofs.Common.{◌≡◌, ℕ, zero, suc, ◌<◌, ℤ, Bool, true, false, cond, List, [], ◌∷◌, Option, Some, None, refl, sym, ap, ◌∙◌, inl, inr, arith}
use Rattle.std.specs.Prelude.{◌⊎◌, nat_eq, slice_index_or, Contains}
use Rattle.std.specs.Cmp.{nat_eq_equiv}
use Rattle.std.specs.Option.{option_or}
use Rattle.std.proofs.lemmas.Bool.{cases_Bool, eqb-true}
use Rattle.std.proofs.lemmas.Bool.Decides.{nat_tests}
use Rattle.std.proofs.lemmas.List.Elements.{All-contains, All-from_recursion, Contains-append_cases, Contains-append_left, Contains-append_right}
use Rattle.lerp_aggregate.specs.Aggregation.{value_at}
use Rattle.tsd_base.specs.Dots.{IsRising}
use Rattle.tsd_base.specs.Moments.{IsTime}
use Rattle.batch_job.specs.PendingPuts.{AreTimes}
use Rattle.batch_job.specs.LastValues.{last_at}

-- the first of a list, or one of the others
pub first_or_later : {A : Type 0} (x : A) (xs : List A) (y : A) → Contains (x ∷ xs) y → (x ≡ y) ⊎ Contains xs y
first_or_later x xs y has = elim (Contains-append_cases (x ∷ []) xs y has) [
  | inl first ↦ inl (alone first.0 first.1 first.2)
  | inr later ↦ inr later
]
  where
    alone : (k : ℕ) → k < 1 → slice_index_or (x ∷ []) k y ≡ y → x ≡ y
    alone zero less is = is
    alone (suc k) less is = absurd (omega arith)

here : (d : ℕ × ℤ) (dots : List (ℕ × ℤ)) (time : ℕ) (value : ℤ) → nat_eq d.0 time ≡ true → d.1 ≡ value → Contains (d ∷ dots) (time, value)
here d dots time value same is = (0, omega arith, λ i. (eqb-true d.0 time same i, is i))

pub value_contains : (dots : List (ℕ × ℤ)) (time : ℕ) (value : ℤ) → value_at dots time ≡ Some value → Contains dots (time, value)
value_contains [] time value is = absurd cc
value_contains (d ∷ dots) time value is = elim (cases_Bool (nat_eq time d.0)) [
  | inl same ↦ here d dots time value (nat_eq_equiv.symm d.0 time ∙ same) (cc (rw same at is))
  | inr other ↦ Contains-append_right (d ∷ []) dots (time, value) (value_contains dots time value (rw other at is))
]

-- where times rise, each value is the one at its time
pub contains_value : (dots : List (ℕ × ℤ)) (time : ℕ) (value : ℤ) → IsRising dots → Contains dots (time, value) → value_at dots time ≡ Some value
contains_value [] time value rising has = absurd (omega (arith, has.1))
contains_value (d ∷ dots) time value rising has = elim (first_or_later d dots (time, value) has) [
  | inl is ↦
      let same : nat_eq time d.0 ≡ true = ap (λ (e : ℕ × ℤ). nat_eq time e.0) is ∙ nat_eq_equiv.refl time in
      rw same (ap (λ (e : ℕ × ℤ). Some e.1) is)
  | inr later ↦
      let above : d.0 < time = All-contains (λ (e : ℕ × ℤ). d.0 < e.0) dots (time, value) (λ k x less. rising 0 (suc k) x (omega arith) (omega (arith, less))) later in
      let apart : nat_eq time d.0 ≡ false = grind (arith, nat_tests, above) in
      rw apart (contains_value dots time value (λ i j x less within. rising (suc i) (suc j) x (omega (arith, less)) (omega (arith, within))) later)
]

-- the last value at a time is one of the values
pub last_contains : (values : List (ℕ × ℤ)) (time : ℕ) (value : ℤ) → last_at values time ≡ Some value → Contains values (time, value)
last_contains [] time value is = absurd cc
last_contains (d ∷ values) time value is = by_rest (last_at values time) (nat_eq d.0 time) refl (λ v told. last_contains values time v told) is
  where
    by_rest : (rest : Option ℤ) (b : Bool) → nat_eq d.0 time ≡ b → ((v : ℤ) → rest ≡ Some v → Contains values (time, v)) → option_or rest (cond b (Some d.1) None) ≡ Some value → Contains (d ∷ values) (time, value)
    by_rest (Some v) b same later told = Contains-append_right (d ∷ []) values (time, value) (later value told)
    by_rest None true same later told = here d values time value same cc
    by_rest None false same later told = absurd cc

-- settled values have the times of the values
pub settled_times : (fine : Bool) (dots values : List (ℕ × ℤ)) → IsRising dots → ((time : ℕ) → value_at dots time ≡ last_at values time) → AreTimes fine values → (d : ℕ × ℤ) → Contains dots d → IsTime d.0 fine
settled_times fine dots values rising settled times d has =
    let last : last_at values d.0 ≡ Some d.1 = sym (settled d.0) ∙ contains_value dots d.0 d.1 rising has in
    All-contains (λ (e : ℕ × ℤ). IsTime e.0 fine) values (d.0, d.1) (All-from_recursion (λ (e : ℕ × ℤ). IsTime e.0 fine) values times) (last_contains values d.0 d.1 last)

-- so all of them are times
pub settled_all : (fine : Bool) (dots values : List (ℕ × ℤ)) → IsRising dots → ((time : ℕ) → value_at dots time ≡ last_at values time) → AreTimes fine values → AreTimes fine dots
settled_all fine dots values rising settled times = each dots (settled_times fine dots values rising settled times)
  where
    each : (ds : List (ℕ × ℤ)) → ((d : ℕ × ℤ) → Contains ds d → IsTime d.0 fine) → AreTimes fine ds
    each [] all = tt
    each (d ∷ ds) all = (all d (Contains-append_left (d ∷ []) ds d (0, omega arith, refl)), each ds (λ e has. all e (Contains-append_right (d ∷ []) ds e has)))
