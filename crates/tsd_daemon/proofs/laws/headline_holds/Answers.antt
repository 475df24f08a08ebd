use Rattle.tsd_daemon.proofs.HeadlineLemmas.{one_id_each, queries_are_plain, served_headline, stays_accepted}
use Rattle.tsd_daemon.proofs.laws.headline_holds.Goals as goal

pub returns-clause-accepted : goal.returns-clause-accepted
returns-clause-accepted c = stays_accepted

pub returns-clause-ids : goal.returns-clause-ids
returns-clause-ids c = one_id_each

pub returns-clause-queries : goal.returns-clause-queries
returns-clause-queries c = queries_are_plain

pub returns-clause-served : goal.returns-clause-served
returns-clause-served c = served_headline
