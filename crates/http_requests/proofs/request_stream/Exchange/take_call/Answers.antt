use Rattle.http_requests.proofs.RequestLemmas.{none_turn, open_of, some_turn}
use Rattle.http_requests.proofs.request_stream.Exchange.take_call.Goals as goal

pub returns-in-Ok-None-clause-ok : goal.returns-in-Ok-None-clause-ok
returns-in-Ok-None-clause-ok c =
    let i = c.self.inside in
    none_turn c.args.self.now c.keep-in-Ok-None.new.self i.buffer c.bytes.result.now (open_of c.args.self.now i.buffer c.bytes.result.now i.closed c.self.view_is c.bytes.ensures c.requires.open) c.keep-in-Ok-None.ensures
    (rw c.in-Ok-None.field-0-is at c.in-Ok-None.ensures)

pub returns-in-Ok-Some-clause-ok : goal.returns-in-Ok-Some-clause-ok
returns-in-Ok-Some-clause-ok c =
    let i = c.self.inside in
    some_turn c.args.self.now c.pass.new.self i.buffer c.bytes.result.now c.in-Ok-Some.body c.args.waiting c.call_of.result (open_of c.args.self.now i.buffer c.bytes.result.now i.closed c.self.view_is c.bytes.ensures c.requires.open)
    (rw c.in-Ok-Some.field-0-is at c.in-Ok-Some.ensures) c.pass.ensures c.call_of.ensures
