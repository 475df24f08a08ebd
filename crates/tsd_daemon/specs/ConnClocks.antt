-- The moments that a clock gives, and its calls.
use Rattle.std.specs.Prelude.{◌≡◌, ℕ, List, [], ◌∷◌, Option}
use Rattle.tsd_io.specs.Ticks.{IsCalled, Ticks}
use Rattle.tsd_daemon.specs.declared.served.Served.{Served}
use Rattle.tsd_daemon.specs.declared.served.Served.TheVariants as answer

-- the clock gave these moments, one after the other
abbrev pub Gave : Option (List ℕ) → List ℕ → Option (List ℕ) → Type 0
Gave moments [] after = after ≡ moments
Gave moments (time ∷ times) after = (between : Option (List ℕ)) × Ticks moments time between × Gave between times after

-- it was called once for each of these moments, and no other time
abbrev pub CalledForEach : Option ℕ → List ℕ → Option ℕ → Type 0
CalledForEach calls [] after = after ≡ calls
CalledForEach calls (time ∷ times) after = (between : Option ℕ) × IsCalled calls between × CalledForEach between times after

-- the same, and once more where it failed
abbrev pub CalledOnce : Served → Option ℕ → List ℕ → Option ℕ → Type 0
CalledOnce answer.ClockFault calls times after = (between : Option ℕ) × CalledForEach calls times between × IsCalled between after
CalledOnce result calls times after = CalledForEach calls times after

-- what a clock tells: the moments that it will give, and how often it was called
pub record ClockTells : Type 0 where
  pub moments : Option (List ℕ)
  pub calls : Option ℕ

-- it gave these moments, and was called once for each
pub record Ticked (old : ClockTells) (times : List ℕ) (new : ClockTells) : Type 0 where
  pub gave : Gave old.moments times new.moments
  pub called : CalledForEach old.calls times new.calls
