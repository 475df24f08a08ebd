use Rattle.std.proofs.Common.{rules}
use Rattle.serde_json.specs.View.{view}
use Rattle.http_requests.proofs.BodyLemmas.{body_reads, body_refuses}
use Rattle.http_requests.proofs.json_body.read_json.Goals as goal

pub returns-in-Ok : goal.returns-in-Ok
returns-in-Ok c = body_reads c.args.bytes.now (view c.in-Ok.value) c.in-Ok.ensures.ok.0 c.in-Ok.ensures.ok.1

pub returns-else-is_memory : goal.returns-else-is_memory
returns-else-is_memory c = body_refuses c.args.bytes.now (c.in-Err.ensures.err (search rules))
