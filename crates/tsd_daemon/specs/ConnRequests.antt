-- What a connection asks, a function of its bytes alone.
use Rattle.std.specs.Prelude.{ℕ, Bool, false, ◌&&◌, nat_le, List, [], ◌∷◌, map, Option, None, Some, Ok, if◌then◌else◌}
use Rattle.tsd_base.specs.Points.{DataPoint}
use Rattle.telnet_put.specs.Requests.{Request, closes, requests_of}
use Rattle.telnet_put.specs.Requests.Request.{Put, Exit, Die}
use Rattle.http_requests.specs.declared.http_call.Call.{Call}
use Rattle.http_requests.specs.HttpRequests as http
use Rattle.http_api.specs.CallWork as work
use Rattle.tsd_daemon.specs.declared.served.Served.{Served}
use Rattle.tsd_daemon.specs.declared.served.Served.TheVariants as answer

-- what can be asked: what a telnet session can, or an HTTP connection
pub data ConnRequest : Type 0 where
  Telnet : Request → ConnRequest
  Http : Call → ConnRequest

-- no request comes behind it
abbrev pub closes_conn : ConnRequest → Bool
closes_conn (Telnet request) = closes request
closes_conn (Http call) = call.closing

-- with which answer it ends the connection, if it does
abbrev pub end_of : ConnRequest → Option Served
end_of (Telnet Exit) = Some answer.Exit
end_of (Telnet Die) = Some answer.Die
end_of (Telnet _) = None
end_of (Http call) = if call.closing then Some answer.Closed else None

-- whether the clock is asked for it
abbrev pub asks_clock : ConnRequest → Bool
asks_clock (Telnet request) = false
asks_clock (Http call) = work.asks_clock call

-- the point that it asks to be put
abbrev pub point_asked : Request → Option DataPoint
point_asked (Put (Ok point)) = Some point
point_asked _ = None

-- a byte from A to Z
abbrev pub is_capital : ℕ → Bool
is_capital byte = nat_le 65 byte && nat_le byte 90

-- where the first byte is one, an HTTP connection begins
abbrev pub begins_http : List ℕ → Bool
begins_http [] = false
begins_http (byte ∷ bytes) = is_capital byte

-- what bytes ask in a telnet session, and on an HTTP connection
abbrev pub telnet_asks : List ℕ → List ConnRequest
telnet_asks bytes = map Telnet (requests_of bytes)

abbrev pub http_asks : List ℕ → List ConnRequest
http_asks bytes = map Http (http.requests_of bytes)

-- the first byte decides
abbrev pub conn_requests : List ℕ → List ConnRequest
conn_requests bytes = if begins_http bytes then http_asks bytes else telnet_asks bytes
