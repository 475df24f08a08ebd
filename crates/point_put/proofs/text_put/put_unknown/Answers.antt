use Rattle.cell_laws.proofs.CallerLemmas.{nothing_made}
use Rattle.point_put.proofs.TextOutcomes.{few_unread}
use Rattle.point_put.proofs.text_put.put_unknown.Goals as goal

pub returns-in-Err-clause-says : goal.returns-in-Err-clause-says
returns-in-Err-clause-says g c = (c.in-Err.ensures.gives, nothing_made _)

pub returns-in-Err-clause-few : goal.returns-in-Err-clause-few
returns-in-Err-clause-few g c point read = few_unread _ point
