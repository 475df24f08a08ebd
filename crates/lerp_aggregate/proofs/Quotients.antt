-- A quotient toward zero of a part of a rise.
use Rattle.std.proofs.Common.{◌≡◌, ℕ, zero, suc, ◌-◌, ◌*◌, ◌/◌, ◌^◌, ◌<◌, ◌≤◌, ℤ, pos, negsuc, neg_ℤ, ◌+ℤ◌, ◌-ℤ◌, ◌*ℤ◌, ◌≤ℤ◌, ◌⊎◌, inl, inr, subst, sym, ap, ◌∙◌, refl, FitsSigned, w64, to_z, of_z, arith}
use Rattle.std.specs.Prelude.{int_div}
use Rattle.std.specs.Int.{w128}
use Rattle.std.proofs.lemmas.Int.{ints}
use Rattle.std.proofs.Math.Nat.{div-le_of_le-mul, mul-le-mul_right, zero-div}

div-negative : (n d : ℕ) → int_div (neg_ℤ (pos n)) (pos d) ≡ neg_ℤ (pos (n / d))
div-negative zero d = ap pos (zero-div d) ∙ sym (ap (λ q. neg_ℤ (pos q)) (zero-div d))
div-negative (suc n) d = refl

times_positive : (run r span : ℕ) → run < span → run * r / span ≤ r
times_positive run r span inside = div-le_of_le-mul span (mul-le-mul_right r (omega arith))

-- it stands between 0 and the whole rise
pub part_between : (run span : ℕ) (rise : ℤ) → run < span → let q = int_div (pos run *ℤ rise) (pos span) in ((pos 0 ≤ℤ q) × (q ≤ℤ rise)) ⊎ ((rise ≤ℤ q) × (q ≤ℤ pos 0))
part_between run span (pos r) inside = let below = times_positive run r span inside in inl (omega (arith, ints), omega (arith, ints))
part_between run span (negsuc r) inside =
    let below = times_positive run (suc r) span inside in
    subst (λ (q : ℤ). ((pos 0 ≤ℤ q) × (q ≤ℤ negsuc r)) ⊎ ((negsuc r ≤ℤ q) × (q ≤ℤ pos 0))) (sym (div-negative (run * suc r) span)) (inr (omega (arith, ints), omega (arith, ints)))

-- so what is between two values of an i64 is one
between_fits : (y0 y1 q : ℤ) → FitsSigned w64 y0 → FitsSigned w64 y1 → ((pos 0 ≤ℤ q) × (q ≤ℤ (y1 -ℤ y0))) ⊎ (((y1 -ℤ y0) ≤ℤ q) × (q ≤ℤ pos 0)) → FitsSigned w64 (y0 +ℤ q)
between_fits y0 y1 q f g (inl h) = omega (arith, ints, h.0, h.1)
between_fits y0 y1 q f g (inr h) = omega (arith, ints, h.0, h.1)

-- as it is computed in 128 bits
pub computed : (run span : ℕ) (y0 y1 a a2 b part : ℤ) → run < span → FitsSigned w64 y0 → FitsSigned w64 y1 → a ≡ to_z w64 (of_z w64 y0) → a2 ≡ to_z w64 (of_z w64 y0) → b ≡ to_z w64 (of_z w64 y1)
    → part ≡ int_div (pos run *ℤ to_z w128 (of_z w128 (to_z w128 (of_z w128 b) -ℤ to_z w128 (of_z w128 a2)))) (pos span)
    → let sum = to_z w128 (of_z w128 (to_z w128 (of_z w128 a) +ℤ to_z w128 (of_z w128 part))) in (FitsSigned w64 sum) × (sum ≡ y0 +ℤ int_div (pos run *ℤ (y1 -ℤ y0)) (pos span))
computed run span y0 y1 a a2 b part inside f g a_is a2_is b_is part_is =
    let rise_is : to_z w128 (of_z w128 (to_z w128 (of_z w128 b) -ℤ to_z w128 (of_z w128 a2))) ≡ y1 -ℤ y0 = omega (arith, ints) in
    let q = int_div (pos run *ℤ (y1 -ℤ y0)) (pos span) in
    let same : part ≡ q = part_is ∙ ap (λ r. int_div (pos run *ℤ r) (pos span)) rise_is in
    let fit : FitsSigned w64 (y0 +ℤ q) = between_fits y0 y1 q f g (part_between run span (y1 -ℤ y0) inside) in
    let sum_is : to_z w128 (of_z w128 (to_z w128 (of_z w128 a) +ℤ to_z w128 (of_z w128 part))) ≡ y0 +ℤ q = sums y0 q a part f fit a_is same in
    (subst (FitsSigned w64) (sym sum_is) fit, sum_is) where
      sums : (y0 q a part : ℤ) → FitsSigned w64 y0 → FitsSigned w64 (y0 +ℤ q) → a ≡ to_z w64 (of_z w64 y0) → part ≡ q → to_z w128 (of_z w128 (to_z w128 (of_z w128 a) +ℤ to_z w128 (of_z w128 part))) ≡ y0 +ℤ q
      sums y0 q a part f fit a_is same = omega (arith, ints)

-- an average of n values of an i64 is one
avg_fits : (total : ℤ) (n : ℕ) → 0 < n → neg_ℤ (pos (n * 2 ^ 63)) ≤ℤ total → total ≤ℤ pos (n * (2 ^ 63 - 1)) → FitsSigned w64 (int_div total (pos n))
avg_fits (pos t) n some low high =
    let most : t / n ≤ 2 ^ 63 - 1 = div-le_of_le-mul n (omega (arith, ints)) in
    omega (arith, ints)
avg_fits (negsuc t) n some low high =
    let most : suc t / n ≤ 2 ^ 63 = div-le_of_le-mul n (omega (arith, ints)) in
    negated (suc t / n) most where
      negated : (q : ℕ) → q ≤ 2 ^ 63 → FitsSigned w64 (neg_ℤ (pos q))
      negated zero h = omega (arith, ints)
      negated (suc q) h = omega (arith, ints)

-- as it is computed in 128 bits
pub averaged : (total d : ℤ) (n : ℕ) → 0 < n → n < 2 ^ 63 → neg_ℤ (pos (n * 2 ^ 63)) ≤ℤ total → total ≤ℤ pos (n * (2 ^ 63 - 1)) → d ≡ pos n
    → let q = to_z w128 (of_z w128 (int_div (to_z w128 (of_z w128 total)) (to_z w128 (of_z w128 d)))) in (FitsSigned w64 q) × (q ≡ int_div total (pos n))
averaged total d n some few low high d_is =
    let fit = avg_fits total n some low high in
    let total_is : to_z w128 (of_z w128 total) ≡ total = omega (arith, ints) in
    let n_is : to_z w128 (of_z w128 d) ≡ pos n = omega (arith, ints) in
    let quotient : int_div (to_z w128 (of_z w128 total)) (to_z w128 (of_z w128 d)) ≡ int_div total (pos n) = λ i. int_div (total_is i) (n_is i) in
    let q_is : to_z w128 (of_z w128 (int_div (to_z w128 (of_z w128 total)) (to_z w128 (of_z w128 d)))) ≡ int_div total (pos n) = ap (λ z. to_z w128 (of_z w128 z)) quotient ∙ wide (int_div total (pos n)) fit in
    (subst (FitsSigned w64) (sym q_is) fit, q_is) where
      wide : (q : ℤ) → FitsSigned w64 q → to_z w128 (of_z w128 q) ≡ q
      wide q fit = omega (arith, ints)
