use Rattle.weave_rows.proofs.Working.{working_begins}
use Rattle.weave_rows.proofs.daemon_rows.DaemonRows.over.Goals as goal

pub invariant_of-result : goal.invariant_of-result
invariant_of-result g c = working_begins g.J.Beginning.history g.J.Beginning.caller g.N.NextDaemon.depth c.args.loom c.args.next c.requires.history c.requires.caller c.requires.least c.requires.most
