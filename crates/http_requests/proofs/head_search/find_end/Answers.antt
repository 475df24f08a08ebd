use Rattle.http_requests.proofs.EndLemmas.{all_searched}
use Rattle.http_requests.proofs.head_search.find_end.Goals as goal

pub returns-clause-ends : goal.returns-clause-ends
returns-clause-ends c = all_searched c.args.bytes.now c.loop-at.at c.loop-at.begun c.loop-at-test.false c.loop-at.invariant
