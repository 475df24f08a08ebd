use Rattle.std.proofs.Common.{◌∙◌, ap, subst, sym}
use Rattle.cell_model.specs.Seen.{HasSeenOpening}
use Rattle.region_locks.specs.CallerViews.{SawOpeningsAlone}
use Rattle.conn_workers.proofs.ServedTurns.{none_served}
use Rattle.conn_workers.proofs.worker_seats.make_worker.Goals as goal

pub returns-clause-begun : goal.returns-clause-begun
returns-clause-begun g c =
    let rows = ap (λ n. n.rows) c.in-Ok.ensures.ok in
    none_served _ _ _ _ c.requires.admission (c.in_ok-twin.ensures.moments ∙ c.requires.moments) (subst HasSeenOpening (sym rows) c.in_ok-pass.ensures.opening) (subst SawOpeningsAlone (sym rows) c.in_ok-pass.ensures.alone)
