-- How far an input was read.
use Rattle.std.specs.Prelude.{ℕ, List}

-- the most bytes that a line may have; the bytes that were taken and aren't used up; the number of lines that were used up, and that of
-- bytes that were taken
pub record Reading : Type 0 where
  pub longest : ℕ
  pub bytes : List ℕ
  pub lines : ℕ
  pub taken : ℕ
