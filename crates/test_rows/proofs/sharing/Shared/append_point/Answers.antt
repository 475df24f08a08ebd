use Rattle.test_rows.proofs.Passing.{sharing_step, sharing_stay}
use Rattle.test_rows.proofs.sharing.Shared.append_point.Goals as goal

pub invariant_of-self : goal.invariant_of-self
invariant_of-self c = sharing_step _ _ _ _ _ _ _ 8 c.self.invariant c.in-Ok.ensures.steps c.in-Ok.ensures.room (λ all. all)

pub invariant_of-self-in-Err : goal.invariant_of-self-in-Err
invariant_of-self-in-Err c = sharing_stay _ _ _ _ c.self.invariant c.in-Err.ensures.stays
