use Rattle.std.proofs.Common.{◌≡◌, map, drop}
use Rattle.httparse.specs.Spans.{header_bytes}
use Rattle.http_requests.specs.HeadFields.{all_have}
use Rattle.http_requests.proofs.head_fields.all_have.Given as goal

abbrev pub invariant-loop-header : goal.invariant-loop-header
invariant-loop-header l = all_have l.name l.value (map (header_bytes l.bytes) (drop l.header-index l.headers)) ≡ all_have l.name l.value (map (header_bytes l.bytes) l.headers)
