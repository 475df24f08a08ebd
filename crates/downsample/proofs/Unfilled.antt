-- The downsampled series with the fill zero is that without a fill, with 0 in each bucket in which it has no point.
use Rattle.std.proofs.Common.{◌≡◌, ℕ, zero, ◌+◌, ◌-◌, ◌*◌, ◌/◌, ◌<◌, ◌≤◌, ℤ, pos, true, false, eqb, List, [], ◌∷◌, get_or, refl, sym, ap, subst, ◌∙◌, ⊎_elim, arith}
use Rattle.std.specs.Prelude.{nat_eq, All, Contains, Some, Ok, Err, unwrap_or}
use Rattle.std.proofs.Math.Nat.{div-mul-le_self, le-div_iff_mul-le}
use Rattle.std.proofs.lemmas.Bool.{cases_Bool, cond-true, cond-false, eqb-true}
use Rattle.std.proofs.lemmas.Bool.Decides.{nat_tests}
use Rattle.std.proofs.lemmas.List.Elements.{All-cons, All-head, All-nil, All-tail}
use Rattle.tsd_base.specs.declared.kinds.Function.{Function}
use Rattle.tsd_base.specs.declared.kinds.Function.TheVariants.{First}
use Rattle.tsd_base.specs.declared.kinds.Fill.TheVariants.{NoFill, Zero}
use Rattle.tsd_base.specs.declared.kinds.Down.{Down}
use Rattle.tsd_base.specs.Dots.{IsRising}
use Rattle.lerp_aggregate.specs.FilledGroups.{IsOn, filled, value_or_zero}
use Rattle.lerp_aggregate.proofs.CallerLemmas.{length-times, time_at}
use Rattle.downsample.specs.Buckets.{bucket_of, buckets_of, all_buckets, values_in, value_of}
use Rattle.downsample.specs.Downsampling.{in_order, point_before, valued, buckets_for, downsampled}
use Rattle.downsample.specs.Folding.{values_of}
use Rattle.downsample.proofs.Multiples.{bucket_begins, bucket_is}
use Rattle.downsample.proofs.Folding.{buckets_all}
use Rattle.downsample.proofs.Filling.{dots_or_none, refilled, taken}
use Rattle.downsample.proofs.FillingLarge.{filled_large}

-- the value of a bucket of points that begin buckets
first_value : (i b : ℕ) (dots : List (ℕ × ℤ)) → All (λ p. bucket_of i p.0 ≡ p.0) dots → value_of First (values_in i dots b) ≡ Some (value_or_zero dots b)
first_value i b [] begin = refl
first_value i b (p ∷ dots) begin =
    let begins : bucket_of i p.0 ≡ p.0 = All-head (λ (q : ℕ × ℤ). bucket_of i q.0 ≡ q.0) p dots begin in
    ⊎_elim
    (λ (e : eqb b p.0 ≡ true).
    let same = eqb-true b p.0 e in
    let here : nat_eq (bucket_of i p.0) b ≡ true = grind (arith, nat_tests, begins, same) in
    ap (λ (ps : List (ℕ × ℤ)). value_of First (values_of ps)) (cond-true _ _ _ here) ∙ sym (ap (λ o. Some (unwrap_or o (pos 0))) (cond-true _ _ _ e)))
    (λ (e : eqb b p.0 ≡ false).
    let other : nat_eq (bucket_of i p.0) b ≡ false = grind (arith, nat_tests, begins, e) in
    ap (λ (ps : List (ℕ × ℤ)). value_of First (values_of ps)) (cond-false _ _ _ other)
    ∙ first_value i b dots (All-tail (λ (q : ℕ × ℤ). bucket_of i q.0 ≡ q.0) p dots begin)
    ∙ sym (ap (λ o. Some (unwrap_or o (pos 0))) (cond-false _ _ _ e)))
    (cases_Bool (eqb b p.0))

valued_first : (i : ℕ) (dots : List (ℕ × ℤ)) (bs : List ℕ) → All (λ p. bucket_of i p.0 ≡ p.0) dots → valued First i dots bs ≡ Ok (filled bs dots)
valued_first i dots [] begin = refl
valued_first i dots (b ∷ bs) begin = λ j. point_before b (first_value i b dots begin j) (valued_first i dots bs begin j)

-- what holds of buckets holds of the times of their points
all_times : (P : ℕ → Type 0) (f : Function) (i : ℕ) (points : List (ℕ × ℤ)) (bs : List ℕ) (dots : List (ℕ × ℤ)) → All P bs → valued f i points bs ≡ Ok dots → All (λ (p : ℕ × ℤ). P p.0) dots
all_times P f i points [] dots all is = subst (All (λ (p : ℕ × ℤ). P p.0)) (ap dots_or_none is) (All-nil (λ (p : ℕ × ℤ). P p.0))
all_times P f i points (b ∷ bs) dots all is =
    let t = taken b (value_of f (values_in i points b)) (valued f i points bs) dots is in
    subst (All (λ (p : ℕ × ℤ). P p.0)) (sym t.dots_are) (All-cons (λ (p : ℕ × ℤ). P p.0) (b, t.v) t.ds (All-head P b bs all) (all_times P f i points bs t.ds (All-tail P b bs all) t.rest_is))

-- the bucket of a time from start to end is one of all
there : (i start end t : ℕ) → 1 ≤ i → start ≤ t → t ≤ end → Contains (all_buckets i start end) (bucket_of i t)
there i start end t some low high =
    let first : start / i ≤ t / i = (le-div_iff_mul-le {k = i} {x = start / i} {y = t} (omega (arith, some))).1 (omega (arith, div-mul-le_self start i, low)) in
    let last : t / i ≤ end / i = (le-div_iff_mul-le {k = i} {x = t / i} {y = end} (omega (arith, some))).1 (omega (arith, div-mul-le_self t i, high)) in
    let k : ℕ = t / i - start / i in
    let n : ℕ = end / i - start / i + 1 in
    let inside : k < n = omega (arith, first, last) in
    let whole : t / i ≡ k + start / i = omega (arith, first) in
    let up : t / i * i ≡ (k + start / i) * i = ap (λ m. m * i) whole in
    let at = time_at i (bucket_of i start) n k (bucket_of i t) inside in
    (k, omega (arith, inside, length-times i (bucket_of i start) n), omega (arith, at, up, bucket_is i start, bucket_is i t))

module _ (how : Down) (start end : ℕ) (readings : List (ℕ × ℤ)) (fill : how.fill ≡ Zero) (some : 1 ≤ how.interval) (order : start ≤ end) (low : All (λ (p : ℕ × ℤ). start ≤ p.0) (in_order readings)) (high : All (λ (p : ℕ × ℤ). p.0 ≤ end) (in_order readings)) where
  zero_is : downsampled how start end readings ≡ valued how.function how.interval (in_order readings) (all_buckets how.interval start end)
  zero_is = ap (λ f. valued how.function how.interval (in_order readings) (buckets_for f how.interval start end (in_order readings))) fill

  pub filled_later : (dots : List (ℕ × ℤ)) → downsampled (record how { fill = NoFill }) start end readings ≡ Ok dots
      → (downsampled how start end readings ≡ Ok (filled (all_buckets how.interval start end) dots)) × IsOn (all_buckets how.interval start end) dots
  filled_later dots is = (
    zero_is ∙ refilled how.function how.interval (in_order readings) dots (all_buckets how.interval start end) some is
        ∙ valued_first how.interval dots (all_buckets how.interval start end) (λ k d inside. (each k d inside).0),
    (λ k d inside. (each k d inside).1),
  )
    where
      Begins : ℕ → Type 0
      Begins b = (bucket_of how.interval b ≡ b) × Contains (all_buckets how.interval start end) b

      each : All (λ (p : ℕ × ℤ). Begins p.0) dots
      each = all_times Begins how.function how.interval (in_order readings) (buckets_of how.interval (in_order readings)) dots
          (buckets_all Begins how.interval (in_order readings) (λ k d inside. (
            bucket_is how.interval (bucket_of how.interval (get_or (in_order readings) k d).0) ∙ sym (bucket_begins how.interval (get_or (in_order readings) k d).0 some),
            there how.interval start end (get_or (in_order readings) k d).0 some (low k d inside) (high k d inside),
          ))) is

  pub filled_fails : IsRising (in_order readings) → (time : ℕ) → downsampled (record how { fill = NoFill }) start end readings ≡ Err time → downsampled how start end readings ≡ Err time
  filled_fails rising time is = zero_is ∙ filled_large how.function how.interval start end time (in_order readings) some order rising low high is
