-- What functions on other threads make of a list.
use Rattle.std.specs.Prelude.{ℕ, ◌<◌, List, length, slice_index_or}

-- each of the second list came of the one at its place in the first, as this relation says
pub record EachChanged {X : Type 0} (Changes : ℕ → X → X → Type 0) (xs ys : List X) : Type 0 where
  pub each : (place : ℕ) (other : X) → place < length xs → Changes place (slice_index_or xs place other) (slice_index_or ys place other)
