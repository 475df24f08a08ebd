-- How often a caller of the store was stopped.
use Rattle.std.specs.Prelude.{◌≡◌, ℕ, ◌≤◌, Bool, true, false, Result, IfErr}
use Rattle.tsd_io.specs.Causes.{Rose}
use Rattle.cell_model.specs.declared.answers.RowsFault.{RowsFault}
use Rattle.cell_model.specs.declared.answers.RowsFault.TheVariants.{OutOfMemory, Stopped}

-- the count rose, where this holds; else nothing is said
abbrev pub RoseIf : Bool → ℕ → ℕ → Type 0
RoseIf true before now = Rose before now
RoseIf false before now = Unit {0}

-- the count stands, where this doesn't hold; else nothing is said
abbrev pub StandsIfNot : Bool → ℕ → ℕ → Type 0
StandsIfNot true before now = Unit {0}
StandsIfNot false before now = now ≡ before

-- the fault of a step is that the caller was stopped
abbrev pub is_stop : RowsFault → Bool
is_stop OutOfMemory = false
is_stop Stopped = true

-- the count of stops never falls, and rose where the fault is a stop
pub record CountsStops {T E : Type 0} (is_stop : E → Bool) (result : Result T E) (before now : ℕ) : Type 0 where
  pub grows : before ≤ now
  pub rose : IfErr result (λ fault. RoseIf (is_stop fault) before now)
