use Rattle.row_compactors.proofs.TakenPlaces.{one_place}
use Rattle.row_compactors.proofs.compactor_seats.take_compactor_back.Goals as goal

pub returns-clause-place : goal.returns-clause-place
returns-clause-place g c = let a = c.absorb.ensures in one_place _ c.part.result _ a.mine a.theirs a.mine_made a.theirs_made a.caller a.numbers c.part.ensures
