use Rattle.std.specs.Prelude.{◌≡◌, ◌+◌, length}
use Rattle.row_compactors.proofs.compactor_seats.make_compactors.Given as goal

abbrev pub invariant-loop-made : goal.invariant-loop-made
invariant-loop-made g l = (length l.rows_to.items ≡ l._made) × (length l.workers.items ≡ l._made) × (length l.openings ≡ length l.fn.openings + l._made)
