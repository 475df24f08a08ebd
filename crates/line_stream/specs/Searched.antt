-- Where a buffer has its bytes, and how far they were searched for an LF.
use Rattle.std.specs.Prelude.{◌≡◌, ℕ, ◌-◌, ◌≤◌, false, List, length, take, drop}
use Rattle.line_stream.specs.Lines.{has_line_end}

-- the bytes from start on, with no LF before the place up to which was searched
pub record IsSearched (block : List ℕ) (start searched : ℕ) : Type 0 where
  pub from : start ≤ searched
  pub to : searched ≤ length block
  pub none : has_line_end (take (searched - start) (drop start block)) ≡ false
