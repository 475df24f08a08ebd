-- The requests of an HTTP connection, a function of its bytes alone.
use Rattle.std.specs.Prelude.{ℕ, zero, suc, nat_le, true, List, [], ◌∷◌, length, take, drop, Option, None, Some, Result, Ok, Err, if◌then◌else◌}
use Rattle.http_requests.specs.declared.http_call.TheConstants.{LONGEST_HEAD}
use Rattle.http_requests.specs.declared.http_call.Verb.TheVariants.{Other}
use Rattle.http_requests.specs.declared.http_call.Refusal.{Refusal}
use Rattle.http_requests.specs.declared.http_call.Refusal.TheVariants.{HeadTooLarge}
use Rattle.http_requests.specs.declared.http_head.Plan.{Plan}
use Rattle.http_requests.specs.declared.http_call.Call.{Call}
use Rattle.http_requests.specs.HeadEnds.{head_end}
use Rattle.http_requests.specs.HeadReader.{head_of}
use Rattle.http_requests.specs.HttpHeads.{asked_of}

abbrev pub refused : Refusal → Call
refused refusal = record { verb = Other; path = []; form = []; body = []; refused = Some refusal; closing = true }

abbrev pub call_of : Plan → List ℕ → Call
call_of plan body = record { verb = plan.verb; path = plan.path; form = plan.form; body = body; refused = None; closing = plan.closing }

-- a request and the bytes behind it, or none yet
abbrev pub Taken : Type 0
Taken = Option (Call × List ℕ)

-- of the bytes behind its head: a request has come when its body has
abbrev pub by_body : Plan → List ℕ → Taken
by_body plan rest = if nat_le plan.len (length rest) then Some (call_of plan (take plan.len rest), drop plan.len rest) else None

abbrev pub by_asked : Result Plan Refusal → List ℕ → Taken
by_asked (Ok plan) rest = by_body plan rest
by_asked (Err refusal) rest = Some (refused refusal, rest)

-- a head is decided when its empty line has come, or as many bytes as the longest head has without one
abbrev pub by_end : List ℕ → Option ℕ → Taken
by_end bytes None = if nat_le LONGEST_HEAD (length bytes) then Some (refused HeadTooLarge, drop LONGEST_HEAD bytes) else None
by_end bytes (Some n) = if nat_le n LONGEST_HEAD then by_asked (asked_of (head_of (take n bytes))) (drop n bytes) else Some (refused HeadTooLarge, drop LONGEST_HEAD bytes)

-- the first request of the bytes
unfoldable pub first_of : List ℕ → Taken
first_of bytes = by_end bytes (head_end bytes)

-- a request and what comes behind it; nothing comes behind one that closes
abbrev pub and_then : Taken → (List ℕ → List Call) → List Call
and_then None more = []
and_then (Some t) more = t.0 ∷ (if t.0.closing then [] else more t.1)

-- at most k requests
unfoldable pub requests_by : ℕ → List ℕ → List Call
requests_by zero bytes = []
requests_by (suc k) bytes = and_then (first_of bytes) (requests_by k)

-- each request takes a byte, so this is all of them
unfoldable pub requests_of : List ℕ → List Call
requests_of bytes = requests_by (length bytes) bytes
