use Rattle.http_requests.proofs.HeadLemmas.{head_is}
use Rattle.http_requests.proofs.laws.heads_are_of_the_grammar.Goals as goal

pub returns : goal.returns
returns c = head_is
