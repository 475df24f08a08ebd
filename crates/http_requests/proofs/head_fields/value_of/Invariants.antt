use Rattle.std.proofs.Common.{◌≡◌, map, drop}
use Rattle.httparse.specs.Spans.{header_bytes}
use Rattle.http_requests.specs.HeadFields.{value_of}
use Rattle.http_requests.proofs.head_fields.value_of.Given as goal

abbrev pub invariant-loop-header : goal.invariant-loop-header
invariant-loop-header l = value_of l.name (map (header_bytes l.bytes) (drop l.header-index l.headers)) ≡ value_of l.name (map (header_bytes l.bytes) l.headers)
