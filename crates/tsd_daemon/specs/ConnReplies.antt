-- The bytes of replies, and the numbers that one of them tells.
use Rattle.std.specs.Prelude.{ℕ, ◌+◌, ◌-◌, ◌^◌, min, ◌≡◌, List, [], ◌∷◌, ◌++◌, codes, decimal, Result, Ok, Err}
use Rattle.tsd_base.specs.Faults.{point_fault_text}
use Rattle.cell_model.specs.declared.answers.Stored.{Stored}
use Rattle.point_put.specs.declared.fault.PutFault.{PutFault}
use Rattle.point_put.specs.declared.fault.PutFault.TheVariants.{Unknown, Filtered, Exhausted, OutOfMemory, Stopped}
use Rattle.point_put.specs.PutFaults.{put_fault_text}
use Rattle.telnet_put.specs.Requests.{Request}
use Rattle.telnet_put.specs.Requests.Request.{Put, Version, Help, Stats, DropCaches, Exit, Die, TooLong, Other}
use Rattle.tsd_daemon.specs.declared.counts.Counts.{Counts}
use Rattle.tsd_daemon.specs.declared.counts.Counted.{Counted}
use Rattle.tsd_daemon.specs.declared.counts.Counted.TheVariants as counted

-- one more, up to the last u64
abbrev pub one_more : ℕ → ℕ
one_more count = min (count + 1) (2 ^ 64 - 1)

abbrev pub no_counts : Counts
no_counts = record { requests = 0; puts = 0; refused = 0 }

-- one more request, and the put that it was, if any
abbrev pub counts_with : Counts → Counted → Counts
counts_with c counted.Accepted = record { requests = one_more c.requests; puts = one_more c.puts; refused = c.refused }
counts_with c counted.Refused = record { requests = one_more c.requests; puts = c.puts; refused = one_more c.refused }
counts_with c counted.Other = record { requests = one_more c.requests; puts = c.puts; refused = c.refused }

-- a text as a line
abbrev pub line : List ℕ → List ℕ
line text = text ++ 10 ∷ []

-- why a put is refused
abbrev pub put_line : List ℕ → List ℕ
put_line text = line (codes "put: " ++ text)

abbrev pub stats_text : Counts → List ℕ
stats_text c = line (codes "requests " ++ decimal c.requests) ++ line (codes "puts " ++ decimal c.puts) ++ line (codes "refused " ++ decimal c.refused)

-- the reply to a put whose words are no point
abbrev pub unread_reply : {T E : Type 0} → (E → List ℕ) → Result T E → List ℕ
unread_reply text (Ok point) = []
unread_reply text (Err fault) = put_line (text fault)

-- the reply to a request of a telnet session that asks for no step, where these are the counts of those before it
unfoldable pub fixed_reply : Counts → Request → List ℕ
fixed_reply c (Put point) = unread_reply point_fault_text point
fixed_reply c Version = line (codes "tsd integer profile 1")
fixed_reply c Help = line (codes "available commands: diediedie dropcaches exit help put stats version")
fixed_reply c Stats = stats_text c
fixed_reply c DropCaches = line (codes "Caches dropped.")
fixed_reply c Exit = []
fixed_reply c Die = line (codes "Cleaning up and exiting now.")
fixed_reply c TooLong = line (codes "line too long")
fixed_reply c Other = line (codes "unknown command")

-- What is told of a point: nothing where it was accepted, and its row is to be queued; else why not. Want of memory and a stop aren't told.
abbrev pub IsTold : Result Stored PutFault → List ℕ → List Stored → Type 0
IsTold (Ok row) reply stored = (reply ≡ []) × (stored ≡ row ∷ [])
IsTold (Err (Unknown kind name)) reply stored = (reply ≡ put_line (put_fault_text (Unknown kind name))) × (stored ≡ [])
IsTold (Err (Filtered kind name)) reply stored = (reply ≡ put_line (put_fault_text (Filtered kind name))) × (stored ≡ [])
IsTold (Err (Exhausted kind)) reply stored = (reply ≡ put_line (put_fault_text (Exhausted kind))) × (stored ≡ [])
IsTold (Err OutOfMemory) reply stored = ⊥
IsTold (Err Stopped) reply stored = ⊥
