use Rattle.std.proofs.Common.{rules}
use Rattle.step_count.proofs.SeatSteps.{notes}
use Rattle.step_count.proofs.steps.Pass.note.Goals as goal

pub split_seat-seat-requires : goal.split_seat-seat-requires
split_seat-seat-requires c = (search rules, search rules, notes _ _ _)
