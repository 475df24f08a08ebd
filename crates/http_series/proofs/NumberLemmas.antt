-- Numbers in arguments.
use Rattle.std.proofs.Common.{◌≡◌, ℕ, ◌-◌, ◌^◌, ◌<◌, min, arith}
use Rattle.std.proofs.lemmas.Bool.Decides.{nat_tests}
use Rattle.http_series.specs.ArgumentReading.{within}

-- a number past the last `u64` is above all that are asked, and so is the last `u64`
pub within_min : (least most n : ℕ) → most < 2 ^ 32 → within least most (min n (2 ^ 64 - 1)) ≡ within least most n
within_min least most n small = grind (arith, nat_tests, small)
