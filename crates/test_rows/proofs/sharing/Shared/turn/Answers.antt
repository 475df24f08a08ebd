use Rattle.test_rows.proofs.Passing.{sharing_turn}
use Rattle.test_rows.proofs.sharing.Shared.turn.Goals as goal

pub invariant_of-self : goal.invariant_of-self
invariant_of-self c = sharing_turn _ _ _ _ _ c.self.invariant c.turn.ensures.turn
