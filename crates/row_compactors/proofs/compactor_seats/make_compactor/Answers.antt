use Rattle.row_compactors.proofs.NothingNew.{opened_nothing}
use Rattle.row_compactors.proofs.compactor_seats.make_compactor.Goals as goal

pub of-requires : goal.of-requires
of-requires g c = opened_nothing c.in_ok-rows.rows c.in_ok-rows.ensures.alone
