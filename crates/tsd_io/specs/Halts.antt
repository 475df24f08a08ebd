-- What an ask of a halt comes to.
use Rattle.std.specs.Prelude.{◌≡◌, ℕ, ◌≤◌, Bool, true, false}
use Rattle.tsd_io.specs.Causes.{Rose}

-- the count never falls, rose where the step was refused, and stands where it may be made
pub record CountsStops (before now : ℕ) (may : Bool) : Type 0 where
  pub later : before ≤ now
  pub refused : may ≡ false → Rose before now
  pub allowed : may ≡ true → now ≡ before
