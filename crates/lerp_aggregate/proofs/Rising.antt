-- Lists of points at rising times: what stands at a time says all of them.
use Rattle.std.proofs.Common.{◌≡◌, ℕ, suc, ◌<◌, ℤ, Bool, true, false, T, ◌&&◌, eqb, List, [], ◌∷◌, map, None, Some, Less, refl, sym, ap, ◌∙◌, ⊎_elim, arith}
use Rattle.std.specs.FinMap.{FinMap, entries, entries_sorted, is_sorted, keys}
use Rattle.std.specs.FinMap.Entries.{below_all}
use Rattle.std.specs.List.{AllByRecursion, find}
use Rattle.std.specs.Map.{keys_of}
use Rattle.std.specs.Ordering.{nat_cmp, is_lt}
use Rattle.std.proofs.lemmas.Bool.{ne_eqb, eq-eqb, eqb-true, cond-true, cond-false, cases_Bool, cases_order}
use Rattle.std.proofs.lemmas.Bool.Decides.{nat_tests}
use Rattle.std.proofs.lemmas.List.Elements.{recursion_from_All}
use Rattle.std.proofs.lemmas.Option.{none-some, same_Some}
use Rattle.tsd_base.specs.Dots.{IsRising}
use Rattle.lerp_aggregate.specs.Aggregation.{value_at}

-- each time is below those after it
abbrev pub Rises : List (ℕ × ℤ) → Type 0
Rises [] = Unit {0}
Rises (p ∷ points) = AllByRecursion (λ q. p.0 < q.0) points × Rises points

pub none_at : (t : ℕ) (points : List (ℕ × ℤ)) → AllByRecursion (λ q. t < q.0) points → value_at points t ≡ None
none_at t [] h = refl
none_at t (p ∷ points) h = cond-false _ _ _ (ne_eqb t p.0 (λ e. omega (arith, h.0))) ∙ none_at t points h.1

none_below : (t : ℕ) (p : ℕ × ℤ) (points : List (ℕ × ℤ)) → t < p.0 → Rises (p ∷ points) → value_at (p ∷ points) t ≡ None
none_below t p points below h = none_at t (p ∷ points) (below, above t p.0 below points h.0) where
  above : (t u : ℕ) → t < u → (points : List (ℕ × ℤ)) → AllByRecursion (λ q. u < q.0) points → AllByRecursion (λ q. t < q.0) points
  above t u below [] h = tt
  above t u below (q ∷ points) h = (omega (arith, h.0), above t u below points h.1)

pub first_at : (p : ℕ × ℤ) (points : List (ℕ × ℤ)) (t : ℕ) → t ≡ p.0 → value_at (p ∷ points) t ≡ Some p.1
first_at p points t e = cond-true _ _ _ (eq-eqb t p.0 e)

-- the points after two first ones at one time, as they answer
rest_alike : (p q : ℕ × ℤ) (xs ys : List (ℕ × ℤ)) → p.0 ≡ q.0 → Rises (p ∷ xs) → Rises (q ∷ ys)
    → ((t : ℕ) → value_at (p ∷ xs) t ≡ value_at (q ∷ ys) t) → (t : ℕ) → value_at xs t ≡ value_at ys t
rest_alike p q xs ys e r s alike t =
    ⊎_elim
    (λ (a : eqb t p.0 ≡ true).
    let here = eqb-true t p.0 a in
    ap (value_at xs) here ∙ none_at p.0 xs r.0 ∙ sym (ap (value_at ys) (here ∙ e) ∙ none_at q.0 ys s.0))
    (λ (b : eqb t p.0 ≡ false).
    sym (cond-false _ _ _ b) ∙ alike t ∙ cond-false _ _ _ (ap (eqb t) (sym e) ∙ b))
    (cases_Bool (eqb t p.0))

pub same_points : (xs ys : List (ℕ × ℤ)) → Rises xs → Rises ys → ((t : ℕ) → value_at xs t ≡ value_at ys t) → xs ≡ ys
same_points [] [] r s alike = refl
same_points [] (q ∷ ys) r s alike = absurd (none-some q.1 (alike q.0 ∙ first_at q ys q.0 refl))
same_points (p ∷ xs) [] r s alike = absurd (none-some p.1 (sym (alike p.0) ∙ first_at p xs p.0 refl))
same_points (p ∷ xs) (q ∷ ys) r s alike =
    ⊎_elim
    (λ (e : p.0 ≡ q.0).
    let value : p.1 ≡ q.1 = same_Some _ _ (sym (first_at p xs p.0 refl) ∙ alike p.0 ∙ first_at q ys p.0 e) in
    λ i. (e i, value i) ∷ same_points xs ys r.1 s.1 (rest_alike p q xs ys e r s alike) i)
    (λ apart. ⊎_elim
    (λ (below : p.0 < q.0). absurd (none-some p.1 (sym (sym (first_at p xs p.0 refl) ∙ alike p.0 ∙ none_below p.0 q ys below s))))
    (λ (above : q.0 < p.0). absurd (none-some q.1 (sym (none_below q.0 p xs above r) ∙ alike q.0 ∙ first_at q ys q.0 refl)))
    apart)
    (cases_order p.0 q.0)

pub below_from_Less : (a b : ℕ) → nat_cmp a b ≡ Less → a < b
below_from_Less a b h = grind (arith, nat_tests)

both : (a b : Bool) → T (a && b) → T a × T b
both true b h = (tt, h)
both false b h = absurd h

below_from_test : (a b : ℕ) → T (is_lt (nat_cmp a b)) → a < b
below_from_test a b h = grind (arith, nat_tests)

-- so do points made at a finite map's keys
Rises-at_keys : (f : ℕ → ℤ) (es : List (ℕ × ℤ)) → T (is_sorted nat_cmp es) → Rises (map (λ t. (t, f t)) (keys_of es))
Rises-at_keys f [] h = tt
Rises-at_keys f (e ∷ es) h = (above f e.0 es (both _ _ h).0, Rises-at_keys f es (both _ _ h).1) where
  above : (f : ℕ → ℤ) (k : ℕ) (es : List (ℕ × ℤ)) → T (below_all nat_cmp k es) → AllByRecursion (λ (q : ℕ × ℤ). k < q.0) (map (λ t. (t, f t)) (keys_of es))
  above f k [] h = tt
  above f k (e ∷ es) h = (below_from_test k e.0 (both _ _ h).0, above f k es (both _ _ h).1)

pub Rises-keys : (f : ℕ → ℤ) (m : FinMap nat_cmp ℤ) → Rises (map (λ t. (t, f t)) (keys m))
Rises-keys f m = Rises-at_keys f (entries m) (entries_sorted m)

-- points at rising times rise
pub Rises-from_rising : (points : List (ℕ × ℤ)) → IsRising points → Rises points
Rises-from_rising [] rising = tt
Rises-from_rising (p ∷ points) rising = (
  recursion_from_All (λ (q : ℕ × ℤ). p.0 < q.0) points (λ k d below. rising 0 (suc k) d (omega arith) (omega arith)),
  Rises-from_rising points (λ i j d before inside. rising (suc i) (suc j) d (omega arith) (omega arith)),
)

-- the first of rising points that passes a test
pub find_first : (test : ℕ × ℤ → Bool) (points : List (ℕ × ℤ)) (t : ℕ) (v : ℤ) → Rises points → value_at points t ≡ Some v → test (t, v) ≡ true
    → ((u : ℕ) (w : ℤ) → u < t → value_at points u ≡ Some w → test (u, w) ≡ false) → find test points ≡ Some (t, v)
find_first test [] t v rises here passes before = absurd (none-some v here)
find_first test (p ∷ points) t v rises here passes before =
    ⊎_elim
    (λ (e : t ≡ p.0).
    let value : p.1 ≡ v = same_Some _ _ (sym (first_at p points t e) ∙ here) in
    let same : test p ≡ true = ap test (λ i. (sym e i, value i)) ∙ passes in
    cond-true _ _ _ same ∙ (λ i. Some (sym e i, value i)))
    (λ apart. ⊎_elim
    (λ (below : t < p.0). absurd (none-some v (sym (none_below t p points below rises) ∙ here)))
    (λ (above : p.0 < t).
    cond-false _ _ _ (before p.0 p.1 above (first_at p points p.0 refl))
    ∙ find_first test points t v rises.1 (sym (cond-false _ _ _ (ne_eqb t p.0 (λ e. omega arith))) ∙ here) passes (λ u w less at. before u w less (not_first u w at)))
    apart)
    (cases_order t p.0) where
      not_first : (u : ℕ) (w : ℤ) → value_at points u ≡ Some w → value_at (p ∷ points) u ≡ Some w
      not_first u w at =
          ⊎_elim
          (λ (e : u ≡ p.0). absurd (none-some w (sym (ap (value_at points) e ∙ none_at p.0 points rises.0) ∙ at)))
          (λ apart. cond-false _ _ _ (ne_eqb u p.0 (λ e. ⊎_elim (λ (l : u < p.0). omega (arith, e)) (λ (l : p.0 < u). omega (arith, e)) apart)) ∙ at)
          (cases_order u p.0)
