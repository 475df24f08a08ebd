-- What each call over a store leaves, whatever it made there.
use Rattle.std.specs.Prelude.{ℕ, ◌≤◌, Bool, Result, OnOk, IfErr}
use Rattle.cell_model.specs.Stops.{RoseIf}
use Rattle.cell_model.specs.Seen.{Seen, IsPossible}

-- after an answer a lawful history fits what was seen; the count of stops never falls, and rose where the fault is a stop
pub record Leaves {T E : Type 0} (is_stop : E → Bool) (result : Result T E) (seen : Seen) (before now : ℕ) : Type 0 where
  pub possible : OnOk result (IsPossible seen)
  pub grows : before ≤ now
  pub rose : IfErr result (λ fault. RoseIf (is_stop fault) before now)
