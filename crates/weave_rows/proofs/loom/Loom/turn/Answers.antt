use Rattle.weave_rows.proofs.Looming.{loom_turns}
use Rattle.weave_rows.proofs.loom.Loom.turn.Goals as goal

pub invariant_of-self : goal.invariant_of-self
invariant_of-self c = loom_turns _ _ _ _ _ c.self.invariant c.requires.least c.requires.most c.turn.ensures.turn c.turn.ensures.possible
