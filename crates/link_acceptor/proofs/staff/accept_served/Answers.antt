use Rattle.link_acceptor.proofs.CallerLemmas.{none_asked}
use Rattle.link_acceptor.proofs.staff.accept_served.Goals as goal

pub returns-clause-asked : goal.returns-clause-asked
returns-clause-asked g c = none_asked g.H.Halt.answers (g.D.Doors.counts c.args.doors.now).out c.args.halt.now
