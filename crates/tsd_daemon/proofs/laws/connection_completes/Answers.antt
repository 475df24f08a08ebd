use Rattle.tsd_daemon.proofs.CompletingLemmas.{conn_completes}
use Rattle.tsd_daemon.proofs.laws.connection_completes.Goals as goal

pub returns : goal.returns
returns c = conn_completes
