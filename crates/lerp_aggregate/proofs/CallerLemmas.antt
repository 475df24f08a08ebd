-- Times that are an interval apart.
use Rattle.std.proofs.Common.{◌≡◌, ℕ, zero, suc, ◌+◌, ◌*◌, ◌<◌, length, get_or, refl, ap, arith}
use Rattle.lerp_aggregate.specs.FilledGroups.{times_from}

-- how many there are
pub length-times : (i f n : ℕ) → length (times_from i f n) ≡ n
length-times i f zero = refl
length-times i f (suc n) = ap suc (length-times i (f + i) n)

-- the one at a place
pub time_at : (i f n k d : ℕ) → k < n → get_or (times_from i f n) k d ≡ f + k * i
time_at i f zero k d less = absurd (omega (arith, less))
time_at i f (suc n) zero d less = omega arith
time_at i f (suc n) (suc k) d less = let rest = time_at i (f + i) n k d (omega (arith, less)) in omega (arith, rest)
