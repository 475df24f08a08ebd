use Rattle.std.proofs.Common.{refl, arith}
use Rattle.weave_rows.proofs.Looming.{loom_steps}
use Rattle.weave_rows.proofs.loom.LoomRows.drop_cells.Goals as goal

pub invariant_of-self-2 : goal.invariant_of-self-2
invariant_of-self-2 c = let left = c.self.invariant.room in let spare = c.in_ok-count.ensures.spare in loom_steps _ _ _ _ _ _ _ _ c.self.invariant c.in_ok-count.ensures.steps refl (omega (arith, left, spare))
