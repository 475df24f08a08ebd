use Rattle.std.specs.Prelude.{length}
use Rattle.row_compactors.proofs.row_compactor.add_rows.Given as goal

abbrev pub decreases-loop-stored : goal.decreases-loop-stored
decreases-loop-stored l = length l.sent
