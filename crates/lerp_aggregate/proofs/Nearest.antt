-- The nearest reading of a series is told by what the series has at each time.
use Rattle.std.proofs.Common.{◌≡◌, ℕ, ◌-◌, ◌<◌, ℤ, Bool, true, false, cond, List, [], ◌∷◌, Option, None, Some, refl, sym, ap, subst, ◌∙◌, ⊎_elim, arith}
use Rattle.std.specs.Prelude.{filter, nat_lt}
use Rattle.std.proofs.lemmas.Bool.{ne_eqb, eq-eqb, ltb-true, cond-true, cond-false, cases_Bool, cases_order}
use Rattle.std.proofs.lemmas.Bool.Decides.{nat_tests}
use Rattle.std.proofs.lemmas.Option.{none-some, same_Some}
use Rattle.lerp_aggregate.specs.Aggregation.{value_at}
use Rattle.lerp_aggregate.specs.Interpolation.{nearer, nearest, nearest_before, nearest_after}
use Rattle.lerp_aggregate.specs.Laws.{AreAlike}

-- among the times that pass a test, the time at the least distance with its value
abbrev pub IsNearest : (ℕ → Bool) → (ℕ → ℕ) → List (ℕ × ℤ) → Option (ℕ × ℤ) → Type 0
IsNearest passes distance series None = (u : ℕ) → passes u ≡ true → value_at series u ≡ None
IsNearest passes distance series (Some p) =
    (passes p.0 ≡ true) × (value_at series p.0 ≡ Some p.1) × ((u : ℕ) → passes u ≡ true → distance u < distance p.0 → value_at series u ≡ None)

first_at : (p : ℕ × ℤ) (series : List (ℕ × ℤ)) → value_at (p ∷ series) p.0 ≡ Some p.1
first_at p series = cond-true _ _ _ (eq-eqb p.0 p.0 refl)

other_at : (p : ℕ × ℤ) (series : List (ℕ × ℤ)) (u : ℕ) → (u ≡ p.0 → ⊥) → value_at (p ∷ series) u ≡ value_at series u
other_at p series u apart = cond-false _ _ _ (ne_eqb u p.0 apart)

module _ (passes : ℕ → Bool) (distance : ℕ → ℕ) where
  -- a time that does not pass in front
  unpassed : (p : ℕ × ℤ) (series : List (ℕ × ℤ)) (o : Option (ℕ × ℤ)) → passes p.0 ≡ false → IsNearest passes distance series o → IsNearest passes distance (p ∷ series) o
  unpassed p series o fails = by_cases o where
    apart : (u : ℕ) → passes u ≡ true → u ≡ p.0 → ⊥
    apart u pass e = cc

    by_cases : (o : Option (ℕ × ℤ)) → IsNearest passes distance series o → IsNearest passes distance (p ∷ series) o
    by_cases None h = λ u pass. other_at p series u (apart u pass) ∙ h u pass
    by_cases (Some q) h = (h.0, other_at p series q.0 (apart q.0 h.0) ∙ h.1, λ u pass less. other_at p series u (apart u pass) ∙ h.2 u pass less)

  -- a time that passes
  passed : (p : ℕ × ℤ) (series : List (ℕ × ℤ)) (o : Option (ℕ × ℤ)) → passes p.0 ≡ true → IsNearest passes distance series o → IsNearest passes distance (p ∷ series) (Some (nearer distance p o))
  passed p series None pass h = (pass, first_at p series, λ u p_u less. other_at p series u (λ e. let same = ap distance e in omega (arith, same)) ∙ h u p_u)
  passed p series (Some q) pass h =
      elim (nat_lt (distance q.0) (distance p.0)) as (λ b. nat_lt (distance q.0) (distance p.0) ≡ b → IsNearest passes distance (p ∷ series) (Some (cond b q p))) [
        | true ↦ λ e.
            let closer : distance q.0 < distance p.0 = ltb-true _ _ e in
            (h.0, other_at p series q.0 (λ same. let d = ap distance same in omega (arith, d, closer)) ∙ h.1, λ u p_u less. other_at p series u (λ same. let d = ap distance same in omega (arith, d, closer, less)) ∙ h.2 u p_u less)
        | false ↦ λ e.
            (pass, first_at p series, λ u p_u less. other_at p series u (λ same. let d = ap distance same in omega (arith, d, less)) ∙ h.2 u p_u (grind (arith, nat_tests, e, less)))
      ] refl

  pub nearest_is : (series : List (ℕ × ℤ)) → IsNearest passes distance series (nearest distance (filter (λ p. passes p.0) series))
  nearest_is [] = λ u pass. refl
  nearest_is (p ∷ series) =
      let rest = filter (λ (q : ℕ × ℤ). passes q.0) series in
      ⊎_elim
      (λ (pass : passes p.0 ≡ true). subst (λ (l : List (ℕ × ℤ)). IsNearest passes distance (p ∷ series) (nearest distance l)) (sym (cond-true _ (p ∷ rest) rest pass)) (passed p series (nearest distance rest) pass (nearest_is series)))
      (λ (fails : passes p.0 ≡ false). subst (λ (l : List (ℕ × ℤ)). IsNearest passes distance (p ∷ series) (nearest distance l)) (sym (cond-false _ (p ∷ rest) rest fails)) (unpassed p series (nearest distance rest) fails (nearest_is series)))
      (cases_Bool (passes p.0))

  -- no two times that pass are at one distance
  module _ (one : (u v : ℕ) → passes u ≡ true → passes v ≡ true → distance u ≡ distance v → u ≡ v) where
    -- so series that are alike have one nearest reading
    pub nearest_unique : (xs ys : List (ℕ × ℤ)) → AreAlike xs ys → (a b : Option (ℕ × ℤ)) → IsNearest passes distance xs a → IsNearest passes distance ys b → a ≡ b
    nearest_unique xs ys alike None None h k = refl
    nearest_unique xs ys alike None (Some q) h k = absurd (none-some q.1 (sym (h q.0 k.0) ∙ alike q.0 ∙ k.1))
    nearest_unique xs ys alike (Some p) None h k = absurd (none-some p.1 (sym (k p.0 h.0) ∙ sym (alike p.0) ∙ h.1))
    nearest_unique xs ys alike (Some p) (Some q) h k =
        ⊎_elim
        (λ (same : distance p.0 ≡ distance q.0).
        let time : p.0 ≡ q.0 = one p.0 q.0 h.0 k.0 same in
        let value : p.1 ≡ q.1 = same_Some _ _ (sym h.1 ∙ alike p.0 ∙ ap (value_at ys) time ∙ k.1) in
        λ i. Some (time i, value i))
        (λ apart. ⊎_elim
        (λ (less : distance p.0 < distance q.0). absurd (none-some p.1 (sym (k.2 p.0 h.0 less) ∙ sym (alike p.0) ∙ h.1)))
        (λ (more : distance q.0 < distance p.0). absurd (none-some q.1 (sym (h.2 q.0 k.0 more) ∙ alike q.0 ∙ k.1)))
        apart)
        (cases_order (distance p.0) (distance q.0))

-- the two tests and distances
abbrev pub is_before : ℕ → ℕ → Bool
is_before time u = nat_lt u time

abbrev pub is_after : ℕ → ℕ → Bool
is_after time u = nat_lt time u

abbrev pub back : ℕ → ℕ → ℕ
back time u = time - u

abbrev pub on : ℕ → ℕ → ℕ
on time u = u - time

one_before : (time u v : ℕ) → is_before time u ≡ true → is_before time v ≡ true → back time u ≡ back time v → u ≡ v
one_before time u v a b e = let l = ltb-true _ _ a in let m = ltb-true _ _ b in omega (arith, l, m, e)

one_after : (time u v : ℕ) → is_after time u ≡ true → is_after time v ≡ true → on time u ≡ on time v → u ≡ v
one_after time u v a b e = let l = ltb-true _ _ a in let m = ltb-true _ _ b in omega (arith, l, m, e)

pub before_is : (series : List (ℕ × ℤ)) (time : ℕ) (o : Option (ℕ × ℤ)) → IsNearest (is_before time) (back time) series o → nearest_before series time ≡ o
before_is series time o h = nearest_unique (is_before time) (back time) (one_before time) series series (λ t. refl) (nearest_before series time) o (nearest_is (is_before time) (back time) series) h

pub after_is : (series : List (ℕ × ℤ)) (time : ℕ) (o : Option (ℕ × ℤ)) → IsNearest (is_after time) (on time) series o → nearest_after series time ≡ o
after_is series time o h = nearest_unique (is_after time) (on time) (one_after time) series series (λ t. refl) (nearest_after series time) o (nearest_is (is_after time) (on time) series) h

pub before_alike : (xs ys : List (ℕ × ℤ)) (time : ℕ) → AreAlike xs ys → nearest_before xs time ≡ nearest_before ys time
before_alike xs ys time alike =
    nearest_unique (is_before time) (back time) (one_before time) xs ys alike (nearest_before xs time) (nearest_before ys time) (nearest_is (is_before time) (back time) xs) (nearest_is (is_before time) (back time) ys)

pub after_alike : (xs ys : List (ℕ × ℤ)) (time : ℕ) → AreAlike xs ys → nearest_after xs time ≡ nearest_after ys time
after_alike xs ys time alike =
    nearest_unique (is_after time) (on time) (one_after time) xs ys alike (nearest_after xs time) (nearest_after ys time) (nearest_is (is_after time) (on time) xs) (nearest_is (is_after time) (on time) ys)
