use Rattle.std.proofs.Common.{rules}
use Rattle.step_count.proofs.SeatSteps.{joins}
use Rattle.step_count.proofs.steps.Pass.absorb.Goals as goal

pub join_seat-requires : goal.join_seat-requires
join_seat-requires c = (search rules, search rules, search rules, search rules, joins _ _ _ _ _)
