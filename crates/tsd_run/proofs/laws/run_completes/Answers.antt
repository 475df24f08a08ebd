use Rattle.tsd_run.proofs.CompletingLemmas.{completes}
use Rattle.tsd_run.proofs.laws.run_completes.Goals as goal

pub returns : goal.returns
returns c s = completes _ _
