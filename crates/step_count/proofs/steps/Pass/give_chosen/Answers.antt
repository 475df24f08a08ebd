use Rattle.std.proofs.Common.{rules}
use Rattle.step_count.proofs.SeatSteps.{gives}
use Rattle.step_count.proofs.steps.Pass.give_chosen.Goals as goal

pub split_seat-seat-requires : goal.split_seat-seat-requires
split_seat-seat-requires g c = (search rules, search rules, gives _ _ _ _ c.requires.held)
