use Rattle.std.proofs.Common.{◌≡◌, map, drop}
use Rattle.httparse.specs.Spans.{header_bytes}
use Rattle.http_requests.specs.HeadFields.{asks_close}
use Rattle.http_requests.proofs.head_fields.asks_close.Given as goal

abbrev pub invariant-loop-header : goal.invariant-loop-header
invariant-loop-header l = asks_close (map (header_bytes l.bytes) (drop l.header-index l.headers)) ≡ asks_close (map (header_bytes l.bytes) l.headers)
