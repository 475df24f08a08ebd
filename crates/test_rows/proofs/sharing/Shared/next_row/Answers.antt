use Rattle.cell_solo.specs.Turns.{sight}
use Rattle.test_rows.proofs.Holding.{next_shows}
use Rattle.test_rows.proofs.Passing.{sharing_step, sharing_stay}
use Rattle.test_rows.proofs.sharing.Shared.next_row.Goals as goal

pub invariant_of-self : goal.invariant_of-self
invariant_of-self c = sharing_step _ _ _ _ _ _ _ 8 c.self.invariant c.in-Ok.ensures.steps c.in-Ok.ensures.room
    (λ all. c.note_found.ensures (sight c.next_row.new.self) all (next_shows (sight c.self.inside.solo) (sight c.next_row.new.self) _ _ _ _ c.in-Ok.ensures.steps.stepped))

pub invariant_of-self-in-Err : goal.invariant_of-self-in-Err
invariant_of-self-in-Err c = sharing_stay _ _ _ _ c.self.invariant c.in-Err.ensures.stays
