use Rattle.std.proofs.Common.{subst}
use Rattle.region_locks.specs.CallerViews.{MadeNoMore}
use Rattle.worker_returns.proofs.worker_return.absorb_worker.Goals as goal

pub returns-clause-theirs_made : goal.returns-clause-theirs_made
returns-clause-theirs_made g c = subst (λ s. MadeNoMore s c.absorb.new.self) c.part.ensures c.absorb.ensures.theirs_made
