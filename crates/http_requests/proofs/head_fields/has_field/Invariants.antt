use Rattle.std.proofs.Common.{◌≡◌, map, drop}
use Rattle.httparse.specs.Spans.{header_bytes}
use Rattle.http_requests.specs.HeadFields.{has_field}
use Rattle.http_requests.proofs.head_fields.has_field.Given as goal

abbrev pub invariant-loop-header : goal.invariant-loop-header
invariant-loop-header l = has_field l.name (map (header_bytes l.bytes) (drop l.header-index l.headers)) ≡ has_field l.name (map (header_bytes l.bytes) l.headers)
