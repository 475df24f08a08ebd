use Rattle.std.proofs.Common.{subst}
use Rattle.http_requests.specs.AwaitedBodies.{Decides}
use Rattle.http_requests.proofs.RequestLemmas.{none_turn, open_of, refused_turn, unread}
use Rattle.http_requests.proofs.request_stream.Exchange.find_call.Goals as goal

pub returns-in-None-clause-ok : goal.returns-in-None-clause-ok
returns-in-None-clause-ok c =
    let i = c.self.inside in
    none_turn c.args.self.now (unread i.buffer i.closed) i.buffer c.bytes.result.now (open_of c.args.self.now i.buffer c.bytes.result.now i.closed c.self.view_is c.bytes.ensures c.requires) c.self.view_is
    (subst (Decides c.bytes.result.now) c.in-None.is c.in_ok-find_head.ensures.found)

pub returns-in-Some-Err-clause-ok : goal.returns-in-Some-Err-clause-ok
returns-in-Some-Err-clause-ok c =
    let i = c.self.inside in
    let d = rw c.in-Some-Err.field-0-is at (subst (Decides c.bytes.result.now) c.in-Some-Err.is c.in_ok-find_head.ensures.found) in
    refused_turn c.args.self.now i.buffer c.bytes.result.now c.in-Some-Err.refusal c.refused.result (open_of c.args.self.now i.buffer c.bytes.result.now i.closed c.self.view_is c.bytes.ensures c.requires) d c.refused.ensures
