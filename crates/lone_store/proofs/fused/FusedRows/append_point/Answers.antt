use Rattle.std.proofs.Common.{◌≡◌, ◌∙◌, true, sym, rules}
use Rattle.std.proofs.lemmas.Bool.{false≢true}
use Rattle.lone_store.proofs.Stops.{waits_none, rose_together, stop_is_told, stop_rose}
use Rattle.lone_store.proofs.fused.FusedRows.append_point.Goals as goal

pub returns-then-not-may_step-clause-err : goal.returns-then-not-may_step-clause-err
returns-then-not-may_step-clause-err g c = rw (← c.self.view_is) (waits_none _)

pub returns-clause-lives : goal.returns-clause-lives
returns-clause-lives g c = rw (← c.self.view_is) c.append_point.ensures.lives

pub returns-clause-stopped : goal.returns-clause-stopped
returns-clause-stopped g c =
    let allowed : c.may_step.result ≡ true = search rules in
    rw (← c.self.view_is) (rose_together _ _ _ _ c.append_point.result (c.may_step.ensures.stops.allowed allowed) c.append_point.ensures.stopped)

pub returns-clause-asked : goal.returns-clause-asked
returns-clause-asked g c =
    let allowed : c.may_step.result ≡ true = search rules in
    rw (← c.self.view_is) (record {
      may = c.may_step.result;
      asked = c.may_step.ensures.answers;
      counts = c.may_step.ensures.stops;
      refused = λ no. absurd (false≢true (sym no ∙ allowed));
      allowed = λ yes. stop_rose _ _ c.append_point.result c.append_point.ensures.stopped;
      told = stop_is_told _ _ c.append_point.result c.append_point.ensures.stands;
    })
