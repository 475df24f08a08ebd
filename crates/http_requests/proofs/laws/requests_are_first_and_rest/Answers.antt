use Rattle.http_requests.proofs.RequestLemmas.{requests_step}
use Rattle.http_requests.proofs.laws.requests_are_first_and_rest.Goals as goal

pub returns : goal.returns
returns c = requests_step
