use Rattle.std.proofs.Common.{refl}
use Rattle.tsd_fleet.proofs.FleetLines.{empty_tally}
use Rattle.tsd_fleet.proofs.fleet.no_tally.Goals as goal

pub returns : goal.returns
returns c = empty_tally _ refl refl refl
