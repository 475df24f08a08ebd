use Rattle.std.proofs.Common.{ℕ, ◌<◌, get_or}
use Rattle.row_key.proofs.keys.rises.Given as goal

abbrev pub invariant-loop-i : goal.invariant-loop-i
invariant-loop-i l = (j k : ℕ) (d : ℕ × ℕ) → j < k → k < l.i → (get_or l.pairs j d).0 < (get_or l.pairs k d).0
