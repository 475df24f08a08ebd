-- Points that are their own downsampled series.
use Rattle.std.proofs.Common.{◌≡◌, ℕ, zero, suc, ◌+◌, ◌<◌, ◌≤◌, ℤ, ◌+ℤ◌, pos, negsuc, true, cond, List, [], ◌∷◌, get_or, refl, sym, ap, subst, ◌∙◌, FitsSigned, w64, arith}
use Rattle.std.specs.Prelude.{All, Option, None, Some, Ok, int_div, not}
use Rattle.std.proofs.lemmas.Bool.{lt-ltb, cond-false}
use Rattle.std.proofs.lemmas.Int.{ints}
use Rattle.tsd_base.specs.declared.kinds.Function.{Function}
use Rattle.tsd_base.specs.declared.kinds.Function.TheVariants.{Sum, Min, Max, Avg, Count, First, Last, Zimsum, Mimmin, Mimmax}
use Rattle.tsd_base.specs.declared.kinds.Down.{Down}
use Rattle.tsd_base.specs.Dots.{IsRising}
use Rattle.lerp_aggregate.specs.Aggregation.{fits}
use Rattle.downsample.specs.Buckets.{bucket_of, keeps_one, value_of}
use Rattle.downsample.specs.Downsampling.{point_before, downsampled, AreBuckets, Begins}
use Rattle.downsample.specs.Folding.{and_then, in_buckets}
use Rattle.downsample.proofs.Folding.{split, buckets_apart, of_run}
use Rattle.downsample.proofs.Filling.{not_filled}

pub fits_from : (z : ℤ) → FitsSigned w64 z → fits z ≡ true
fits_from (pos n) h = lt-ltb _ _ h.sfits
fits_from (negsuc n) h = lt-ltb _ _ h.sfits

pub begins_here : (i b t : ℕ) (v : ℤ) → b ≡ bucket_of i t → b ≡ t → FitsSigned w64 v → Begins i (t, v)
begins_here i b t v is same fit = (sym is ∙ same, fits_from v fit)

-- of one value
one_total : (v : ℤ) → pos 0 +ℤ v ≡ v
one_total v = omega (arith, ints)

one_quotient : (v : ℤ) → int_div (pos 0 +ℤ v) (pos 1) ≡ v
one_quotient v = omega (arith, ints)

one_sum : (v : ℤ) → fits v ≡ true → cond (not (fits (pos 0 +ℤ v))) None (Some (pos 0 +ℤ v)) ≡ Some v
one_sum v fit = ap (λ z. cond (not (fits z)) None (Some z)) (one_total v) ∙ cond-false _ _ _ (ap not fit)

value_of_one : (f : Function) (v : ℤ) → keeps_one f ≡ true → fits v ≡ true → value_of f (v ∷ []) ≡ Some v
value_of_one Sum v keeps fit = one_sum v fit
value_of_one Min v keeps fit = refl
value_of_one Max v keeps fit = refl
value_of_one Avg v keeps fit = ap Some (one_quotient v)
value_of_one Count v keeps fit = cc
value_of_one First v keeps fit = refl
value_of_one Last v keeps fit = refl
value_of_one Zimsum v keeps fit = one_sum v fit
value_of_one Mimmin v keeps fit = refl
value_of_one Mimmax v keeps fit = refl

own : (f : Function) (i : ℕ) (points : List (ℕ × ℤ)) → keeps_one f ≡ true → IsRising points → All (Begins i) points → in_buckets f i points ≡ Ok points
own f i [] keeps rising begin = refl
own f i (p ∷ points) keeps rising begin =
    let here : Begins i p = begin 0 p (omega arith) in
    let begins : bucket_of i p.0 ≡ p.0 = here.0 in
    let early : All (λ (q : ℕ × ℤ). bucket_of i q.0 < p.0 + 1) (p ∷ []) = (λ k d lt. one_early k d lt begins) in
    let late : All (λ (q : ℕ × ℤ). p.0 + 1 ≤ bucket_of i q.0) points = (λ k d lt.
    let up : p.0 < (get_or points k d).0 = rising 0 (suc k) d (omega arith) (omega (arith, lt)) in
    let same : bucket_of i (get_or points k d).0 ≡ (get_or points k d).0 = (begin (suc k) d (omega (arith, lt))).0 in
    omega (arith, up, same)) in
    let first : in_buckets f i (p ∷ []) ≡ Ok (p ∷ []) = of_run f i p.0 (p ∷ []) (omega arith) (λ k d lt. one_here k d lt begins) ∙ ap (λ (o : Option ℤ). point_before p.0 o (Ok [])) (value_of_one f p.1 keeps here.1) in
    let rest : in_buckets f i points ≡ Ok points = own f i points keeps (λ j k d less within. rising (suc j) (suc k) d (omega (arith, less)) (omega (arith, within))) (λ k d lt. begin (suc k) d (omega (arith, lt))) in
    split f i (p.0 + 1) (p ∷ []) points early late (buckets_apart i (p.0 + 1) (p ∷ []) points early late) ∙ (λ j. and_then (first j) (rest j))
  where
    one_here : (k : ℕ) (d : ℕ × ℤ) → k < 1 → bucket_of i p.0 ≡ p.0 → bucket_of i (get_or (p ∷ []) k d).0 ≡ p.0
    one_here zero d lt e = e
    one_here (suc k) d lt e = absurd (omega (arith, lt))

    one_early : (k : ℕ) (d : ℕ × ℤ) → k < 1 → bucket_of i p.0 ≡ p.0 → bucket_of i (get_or (p ∷ []) k d).0 < p.0 + 1
    one_early zero d lt e = omega (arith, e)
    one_early (suc k) d lt e = absurd (omega (arith, lt))

pub own_buckets : (how : Down) (start end : ℕ) (dots list : List (ℕ × ℤ)) → list ≡ dots → IsRising dots → AreBuckets how list → downsampled how start end dots ≡ Ok dots
own_buckets how start end dots list same rising are =
    let begin : All (Begins how.interval) dots = subst (All (Begins how.interval)) same are.2 in
    not_filled how start end dots (Ok dots) are.0 rising (own how.function how.interval dots are.1 rising begin)
