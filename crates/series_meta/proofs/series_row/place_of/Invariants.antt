use Rattle.std.proofs.Common.{ℕ, ◌<◌}
use Rattle.std.specs.Prelude.{slice_index_or}
use Rattle.series_meta.proofs.series_row.place_of.Given as goal

-- the pairs that were passed are below the id
abbrev pub invariant-loop-at : goal.invariant-loop-at
invariant-loop-at l = (k : ℕ) (d : ℕ × ℕ) → k < l.at → (slice_index_or l.pairs k d).0 < l.id
