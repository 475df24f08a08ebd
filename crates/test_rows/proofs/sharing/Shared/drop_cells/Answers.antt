use Rattle.std.proofs.Common.{arith}
use Rattle.test_rows.proofs.Passing.{sharing_step}
use Rattle.test_rows.proofs.sharing.Shared.drop_cells.Goals as goal

pub invariant_of-self-2 : goal.invariant_of-self-2
invariant_of-self-2 c = let left = c.self.invariant.room in let spare = c.in_ok-count.ensures.spare in sharing_step _ _ _ _ _ _ _ _ c.self.invariant c.in_ok-count.ensures.steps (omega (arith, left, spare)) (λ all. all)
