-- Rows that hand on points, as callers see them.
use Rattle.std.specs.Prelude.{ℕ, List}

-- the rows, the lines that are kept, and their number
pub record FedRows (R : Type 0) : Type 0 where
  pub rows : R
  pub text : List ℕ
  pub count : ℕ
