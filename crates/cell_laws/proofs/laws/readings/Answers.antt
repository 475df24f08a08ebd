use Rattle.cell_laws.proofs.Accepting.{standing_was_accepted, standing_was_accepted_in_row, accepted_times_stand, standing_is_accepted}
use Rattle.cell_laws.proofs.laws.readings.Goals as goal

pub returns : goal.returns
returns c = record { was = standing_was_accepted; row = standing_was_accepted_in_row; stand = accepted_times_stand; same = standing_is_accepted }
