use Rattle.cell_solo.specs.Turns.{sight}
use Rattle.test_rows.proofs.Holding.{point_shows}
use Rattle.test_rows.proofs.Passing.{sharing_step, sharing_stay}
use Rattle.test_rows.proofs.sharing.Shared.put_point.Goals as goal

pub invariant_of-self : goal.invariant_of-self
invariant_of-self c = sharing_step _ _ _ _ _ _ _ 8 c.self.invariant c.in-Ok.ensures.steps c.in-Ok.ensures.room (λ all. c.note_cell.ensures (sight c.put_point.new.self) all (point_shows (sight c.self.inside.solo) (sight c.put_point.new.self) _ _ _ _ _ _ c.in-Ok.ensures.steps.stepped c.list.ensures c.list-in-Ok.ensures))

pub invariant_of-self-in-Err : goal.invariant_of-self-in-Err
invariant_of-self-in-Err c = sharing_stay _ _ _ _ c.self.invariant c.in-Err.ensures.stays
