use Rattle.weave_rows.proofs.Looming.{loom_ends}
use Rattle.weave_rows.proofs.loom.Loom.part.Goals as goal

pub returns : goal.returns
returns c = loom_ends _ _ _ _ c.self.invariant c.part.ensures.content c.part.ensures.lawful
