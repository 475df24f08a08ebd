-- Numbers of names.
use Rattle.std.proofs.Common.{◌≡◌, ℕ, ◌-◌, ◌^◌, min, arith}
use Rattle.std.proofs.lemmas.Bool.Decides.{nat_tests}
use Rattle.name_requests.specs.SuggestRequests.{max_within}

-- a number past the last `u64` is no number of names, and neither is the last `u64`
pub max_within_min : (n : ℕ) → max_within (min n (2 ^ 64 - 1)) ≡ max_within n
max_within_min n = grind (arith, nat_tests)
