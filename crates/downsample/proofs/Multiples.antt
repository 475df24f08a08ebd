-- Where buckets begin and end.
use Rattle.std.proofs.Common.{◌≡◌, ℕ, suc, ◌+◌, ◌-◌, ◌*◌, ◌/◌, ◌<◌, ◌≤◌, sym, ap, ◌∙◌, arith}
use Rattle.std.proofs.Math.Nat.{mod-eq-sub-div-mul, div-mul-le_self, lt-div-mul-add, le-div_iff_mul-le, mul-div_cancel, mul-le-mul_right}
use Rattle.std.proofs.lemmas.Nat.{div-mul-add}
use Rattle.downsample.specs.Buckets.{bucket_of}

-- a bucket begins at a multiple of the interval
pub bucket_is : (i t : ℕ) → bucket_of i t ≡ t / i * i
bucket_is i t = omega (arith, mod-eq-sub-div-mul t i, div-mul-le_self t i)

-- a bucket begins here
abbrev pub Begins : ℕ → ℕ → Type 0
Begins i b = b ≡ b / i * i

pub zero_begins : (i : ℕ) → Begins i 0
zero_begins i = omega (arith, div-mul-le_self 0 i)

pub multiple_begins : (i q : ℕ) → 1 ≤ i → Begins i (q * i)
multiple_begins i q some = ap (λ (n : ℕ). n * i) (sym (mul-div_cancel q (omega (arith, some))))

pub bucket_begins : (i t : ℕ) → 1 ≤ i → Begins i (bucket_of i t)
bucket_begins i t some = bucket_is i t ∙ multiple_begins i (t / i) some ∙ ap (λ (b : ℕ). b / i * i) (sym (bucket_is i t))

pub next_begins : (i b : ℕ) → 1 ≤ i → Begins i b → Begins i (b + i)
next_begins i b some begins =
    let next : b + i ≡ suc (b / i) * i = omega (arith, begins) in
    next ∙ multiple_begins i (suc (b / i)) some ∙ ap (λ (n : ℕ). n / i * i) (sym next)

pub bucket_below : (i t : ℕ) → bucket_of i t ≤ t
bucket_below i t = omega (arith, bucket_is i t, div-mul-le_self t i)

pub bucket_near : (i t : ℕ) → 1 ≤ i → t < bucket_of i t + i
bucket_near i t some = let near = lt-div-mul-add {a = t} {b = i} (omega (arith, some)) in omega (arith, bucket_is i t, near)

-- a time less than the interval above where a bucket begins is in it
pub bucket_same : (i b t : ℕ) → 1 ≤ i → Begins i b → b ≤ t → t < b + i → bucket_of i t ≡ b
bucket_same i b t some begins from to =
    let time : t ≡ b / i * i + (t - b) = omega (arith, begins, from) in
    bucket_is i t ∙ ap (λ (n : ℕ). n / i * i) time ∙ ap (λ (q : ℕ). q * i) (div-mul-add (b / i) i (t - b) (omega (arith, from, to))) ∙ sym begins

-- a later time is in a later one
pub bucket_later : (i b t : ℕ) → 1 ≤ i → Begins i b → b ≤ t → b ≤ bucket_of i t
bucket_later i b t some begins from =
    let q = (le-div_iff_mul-le {k = i} {x = b / i} {y = t} (omega (arith, some))).1 (omega (arith, begins, from)) in
    let more : b / i * i ≤ t / i * i = mul-le-mul_right i q in
    omega (arith, begins, more, bucket_is i t)

-- each of the buckets up to that of end begins at most there
pub bucket_within : (i start end k : ℕ) → 1 ≤ i → start ≤ end → k < end / i - start / i + 1 → bucket_of i start + k * i ≤ end
bucket_within i start end k some order few =
    let rest : k ≤ end / i - start / i = omega (arith, few) in
    let steps : start / i + k ≤ end / i =
    (let below : start / i ≤ end / i = (le-div_iff_mul-le {k = i} {x = start / i} {y = end} (omega (arith, some))).1 (omega (arith, div-mul-le_self start i, order)) in omega (arith, rest, below)) in
    let up : (start / i + k) * i ≤ end / i * i = mul-le-mul_right i steps in
    omega (arith, up, bucket_is i start, div-mul-le_self end i)

-- each of them begins at a multiple of the interval
pub bucket_on : (i start k b : ℕ) → 1 ≤ i → b ≡ bucket_of i start → Begins i (b + k * i)
bucket_on i start k b some is =
    let there : b + k * i ≡ (start / i + k) * i = omega (arith, is, bucket_is i start) in
    there ∙ multiple_begins i (start / i + k) some ∙ ap (λ (n : ℕ). n / i * i) (sym there)
