use Rattle.std.proofs.Common.{refl}
use Rattle.weave_rows.proofs.Looming.{loom_steps, loom_stays}
use Rattle.weave_rows.proofs.loom.LoomRows.next_row.Goals as goal

pub invariant_of-self : goal.invariant_of-self
invariant_of-self c = loom_steps _ _ _ _ _ _ _ 8 c.self.invariant c.in-Ok.ensures.steps refl c.in-Ok.ensures.room

pub invariant_of-self-in-Err : goal.invariant_of-self-in-Err
invariant_of-self-in-Err c = loom_stays _ _ _ _ c.self.invariant c.in-Err.ensures.stays
