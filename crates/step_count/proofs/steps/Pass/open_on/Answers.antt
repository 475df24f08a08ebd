use Rattle.step_count.proofs.CounterTurns.{lives_departed}
use Rattle.step_count.proofs.steps.Pass.open_on.Goals as goal

pub returns-clause-live : goal.returns-clause-live
returns-clause-live g c = lives_departed _ _ c.depart-seat.ensures.seat_view c.open.ensures.live
