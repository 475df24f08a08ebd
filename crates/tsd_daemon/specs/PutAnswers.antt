-- What the answering of a put says.
use Rattle.std.specs.Prelude.{◌≡◌, ℕ, List, [], Err}
use Rattle.tsd_base.specs.declared.points.PointFault.{PointFault}
use Rattle.tsd_base.specs.declared.points.PointFault.TheVariants.{OutOfMemory}
use Rattle.tsd_base.specs.Faults.{point_fault_text}
use Rattle.tsd_base.specs.Points.{point_of}
use Rattle.point_put.specs.declared.fault.PutFault.{PutFault}
use Rattle.point_put.specs.declared.fault.TextFault.{TextFault}
use Rattle.point_put.specs.declared.fault.TextFault.TheVariants.{Unread, Unput}
use Rattle.telnet_put.specs.Requests.Request.{Put}
use Rattle.tsd_daemon.specs.ConnReplies.{IsTold, put_line}
use Rattle.tsd_daemon.specs.ConnRequests.{ConnRequest}
use Rattle.tsd_daemon.specs.ConnRequests.ConnRequest.{Telnet}

-- the request that puts the point of a text
abbrev pub put_of : List ℕ → ConnRequest
put_of text = Telnet (Put (point_of text))

-- what is told of a point that was refused
abbrev pub IsRefusal : PutFault → List ℕ → Type 0
IsRefusal fault reply = IsTold (Err fault) reply []

-- what is told of a text that has no point; want of memory isn't told
abbrev pub IsUnread : PointFault → List ℕ → Type 0
IsUnread OutOfMemory reply = ⊥
IsUnread fault reply = reply ≡ put_line (point_fault_text fault)

-- what is told of a text whose point wasn't put
abbrev pub IsDenial : TextFault → List ℕ → Type 0
IsDenial (Unread fault) reply = IsUnread fault reply
IsDenial (Unput fault) reply = IsRefusal fault reply
