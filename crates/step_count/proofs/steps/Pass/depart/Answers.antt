use Rattle.std.proofs.Common.{rules}
use Rattle.step_count.proofs.SeatSteps.{departs}
use Rattle.step_count.proofs.steps.Pass.depart.Goals as goal

pub split_seat-requires : goal.split_seat-requires
split_seat-requires c = (search rules, search rules, departs _ _ _)
