use Rattle.http_requests.proofs.RequestLemmas.{too_many, not_yet}
use Rattle.http_requests.proofs.request_stream.find_head.Goals as goal

pub returns-in-None-clause-found : goal.returns-in-None-clause-found
returns-in-None-clause-found c = too_many c.args.bytes.now c.if-bytes-ge-LONGEST_HEAD.true c.in-None.ensures.ends

pub returns-in-None-2-clause-found : goal.returns-in-None-2-clause-found
returns-in-None-2-clause-found c = not_yet c.args.bytes.now c.if-bytes-ge-LONGEST_HEAD.false c.in-None.ensures.ends
