-- Times of points.
use Rattle.std.specs.Prelude.{◌≡◌, ℕ, ◌≤◌, ◌%◌, Bool, false}

-- at most the last time, and whole seconds where it was given in seconds
pub record IsTime (time : ℕ) (fine : Bool) : Type 0 where
  pub most : time ≤ 4294967295999
  pub whole : fine ≡ false → time % 1000 ≡ 0
