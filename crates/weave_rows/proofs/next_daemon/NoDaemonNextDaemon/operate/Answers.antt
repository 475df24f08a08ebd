use Rattle.weave_rows.specs.WovenHistories.IsLater.{same}
use Rattle.weave_rows.proofs.next_daemon.NoDaemonNextDaemon.operate.Goals as goal

pub returns-clause-later : goal.returns-clause-later
returns-clause-later c = same
