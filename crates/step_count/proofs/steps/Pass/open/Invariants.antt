use Rattle.std.proofs.Common.{◌≡◌}
use Rattle.step_count.proofs.CounterTurns.{HasWaited}
use Rattle.step_count.proofs.steps.Pass.open.Given as goal

abbrev pub invariant-loop : goal.invariant-loop
invariant-loop g l = (l.self.seat.table_id ≡ l.fn.self.seat.table_id) × HasWaited l.fn.self.seat.me.0 l.self.seat.me.0
