-- Texts that are written one after another.
use Rattle.std.proofs.Common.{◌≡◌, ℕ, List, ◌++◌, ◌∙◌, ap, append_assoc}
use Rattle.std.specs.Prelude.{Result, Ok, Err, OnOk, is_ok, if◌then◌else◌}

-- one text after another
pub onward : (old mid now first second : List ℕ) → mid ≡ old ++ first → now ≡ mid ++ second → now ≡ old ++ (first ++ second)
onward old mid now first second mid_is now_is = now_is ∙ ap (λ t. t ++ second) mid_is ∙ append_assoc old first second

-- the same, where the second is written only if there is memory
pub onward_if : {T E : Type 0} (r : Result T E) (old mid now first second : List ℕ) → mid ≡ old ++ first → now ≡ (if is_ok r then mid ++ second else mid) → OnOk r (now ≡ old ++ (first ++ second))
onward_if (Ok done) old mid now first second mid_is now_is = onward old mid now first second mid_is now_is
onward_if (Err fault) old mid now first second mid_is now_is = tt
