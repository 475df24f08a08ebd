-- What was talked on a connection so far, and how that goes on.
use Rattle.std.specs.Prelude.{◌≡◌, ◌⊎◌, ℕ, ◌^◌, ◌≤◌, Bool, true, false, List, [], ◌∷◌, ◌++◌, length, map, Option, None, Some, Result, Err}
use Rattle.std.specs.List.{list_any}
use Rattle.std.specs.Io.KnownBytes.{Appends, Consumes}
use Rattle.tsd_io.specs.Causes.{Rose}
use Rattle.telnet_put.specs.Unread.{Unread}
use Rattle.telnet_put.specs.Sessions.{to_come}
use Rattle.http_requests.specs.HttpSessions as calls
use Rattle.http_requests.specs.HttpUnread as http
use Rattle.cell_model.specs.declared.answers.Stored.{Stored}
use Rattle.cell_model.specs.History.{History}
use Rattle.cell_model.specs.Lawful.{IsLawful}
use Rattle.cell_model.specs.Seen.{Fits, Seen, InEach}
use Rattle.cell_model.specs.Deeds.{deeds, Since}
use Rattle.compactor.specs.Queues.{HasRows}
use Rattle.point_put.specs.Admissions.{Admission}
use Rattle.queued_put.specs.PutRows.{MayHaveRows}
use Rattle.tsd_daemon.specs.declared.served.Served.{Served}
use Rattle.tsd_daemon.specs.declared.served.Served.TheVariants as answer
use Rattle.tsd_daemon.specs.declared.counts.Counts.{Counts}
use Rattle.tsd_daemon.specs.declared.counts.Counted.{Counted}
use Rattle.tsd_daemon.specs.declared.counts.Counted.TheVariants as counted
use Rattle.tsd_daemon.specs.ConnRequests.{ConnRequest, closes_conn, conn_requests}
use Rattle.tsd_daemon.specs.ConnRequests.ConnRequest.{Telnet, Http}
use Rattle.tsd_daemon.specs.ConnClocks.{CalledOnce, ClockTells, Gave, Ticked}
use Rattle.tsd_daemon.specs.ConnReplies.{no_counts}
use Rattle.tsd_daemon.specs.ConnPieces.{PieceTaken, SourceTells, TakesNext}
use Rattle.tsd_daemon.specs.Exchanges.{Exchange, AnsweredBetween, BegunBetween, Ran, counts_of, is_put, moments_in, replies_in, requests_in, rows_in}
use Rattle.tsd_daemon.specs.LastPieces.{LastTake}
use Rattle.tsd_daemon.specs.ServedConns.{Fills, IsQueued}

-- ---- one request

-- how a put counts, by the rows that it stored
abbrev pub counted_put : List Stored → Counted
counted_put [] = counted.Refused
counted_put (row ∷ rows) = counted.Accepted

abbrev pub counted_if : Bool → List Stored → Counted
counted_if true stored = counted_put stored
counted_if false stored = counted.Other

abbrev pub counted_as : ConnRequest → List Stored → Counted
counted_as request stored = counted_if (is_put request) stored

-- the request was answered with this reply at this moment in each lawful history that fits, and the queue got the rows that were stored
pub record Replied (c : Admission) (counts : Counts) (moment : Option ℕ) (request : ConnRequest) (old : Seen) (before : List Stored) (reply : List ℕ) (how : Counted) (new : Seen) (after : List Stored) : Type 0 where
  pub stored : List Stored
  pub since : Since old new
  pub answered : InEach new (λ h. AnsweredBetween c h old.caller old.length new.length counts moment request reply stored)
  pub rows : HasRows before stored after
  pub how_is : how ≡ counted_as request stored

-- the request was begun at this moment, and the queue may have got rows
pub record WasBegun (c : Admission) (moment : Option ℕ) (request : ConnRequest) (old : Seen) (before : List Stored) (new : Seen) (after : List Stored) : Type 0 where
  pub since : Since old new
  pub begun : InEach new (λ h. BegunBetween c h old.caller old.length new.length moment request)
  pub rows : InEach new (λ h. MayHaveRows before [] (deeds h old.caller old.length new.length) after)

-- ---- bytes that are given

-- a front of all the bytes was given, and this is the rest
pub record Gives (held held' : Option (List ℕ)) (all rest : List ℕ) : Type 0 where
  pub given : List ℕ
  pub appends : Appends held held' given
  pub split : given ++ rest ≡ all

abbrev pub GivesSome : Option (List ℕ) → Option (List ℕ) → List ℕ → Type 0
GivesSome held held' all = (rest : List ℕ) × Gives held held' all rest

-- a reply was told, or the sink failed behind a front of all the bytes
abbrev pub GivesReply : Option (List ℕ) → Option (List ℕ) → List ℕ → List ℕ → Option Served → Type 0
GivesReply held held' all rest None = Gives held held' all rest
GivesReply held held' all rest (Some answer.WriteFault) = GivesSome held held' all
GivesReply held held' all rest (Some other) = ⊥

-- all was given and the answer is this end, or the sink failed behind a front
abbrev pub GivesLast : Option (List ℕ) → Option (List ℕ) → List ℕ → Served → Served → Type 0
GivesLast held held' all end result = (Gives held held' all [] × (result ≡ end)) ⊎ (GivesSome held held' all × (result ≡ answer.WriteFault))

-- ---- a connection

-- with what a connection begins or ends: what its caller has seen, what its source and its clock tell, the bytes that its sink holds, and its queue
pub record ConnState : Type 0 where
  pub seen : Seen
  pub source : SourceTells
  pub clock : ClockTells
  pub held : Option (List ℕ)
  pub queue : List Stored

-- what its source and its clock tell later, and how many bytes were taken
pub record Taken : Type 0 where
  pub source : SourceTells
  pub clock : ClockTells
  pub size : ℕ

-- what else changed since
pub record Stand : Type 0 where
  pub seen : Seen
  pub held : Option (List ℕ)
  pub queue : List Stored
  pub waiting : List ℕ
  pub counts : Counts

-- where the connection ends, if it ends here
abbrev pub state_at : Taken → Stand → ConnState
state_at t now = record { seen = now.seen; source = t.source; clock = t.clock; held = now.held; queue = now.queue }

-- the requests that are to come of what is kept and more bytes
abbrev pub telnet_to_come : Unread → List ℕ → List ConnRequest
telnet_to_come unread more = map Telnet (to_come unread more)

abbrev pub http_to_come : http.Unread → List ℕ → List ConnRequest
http_to_come unread more = map Http (calls.to_come unread more)

-- these exchanges were done, the clock gave their moments, their replies were given or wait, and these requests are to come of more bytes
pub record Told (c : Admission) (from : ConnState) (t : Taken) (done : List Exchange) (now : Stand) (come : List ℕ → List ConnRequest) : Type 0 where
  pub input : List ℕ
  pub output : List ℕ
  pub takes : Appends from.source.taken t.source.taken input
  pub leaves : Consumes from.source.left t.source.left input
  pub gives : Appends from.held now.held output
  pub ticks : Ticked from.clock (moments_in done) t.clock
  pub size : length input ≡ t.size
  pub since : Since from.seen now.seen
  pub ran : InEach now.seen (λ h. Ran c h from.seen.caller from.seen.length done now.seen.length)
  pub replies : output ++ now.waiting ≡ replies_in done
  pub requests : (more : List ℕ) → conn_requests (input ++ more) ≡ requests_in done ++ come more
  pub queued : HasRows from.queue (rows_in done) now.queue
  pub counted : now.counts ≡ counts_of done
  pub pieces : LastTake from.source.last t.source.last done input output

-- the connection goes on
pub record Talks (c : Admission) (from : ConnState) (t : Taken) (now : Stand) (come : List ℕ → List ConnRequest) : Type 0 where
  pub done : List Exchange
  pub told : Told c from t done now come
  pub open_still : list_any closes_conn (requests_in done) ≡ false

-- the connection was served to this end
pub record Ends (c : Admission) (from to : ConnState) (result : Served) : Type 0 where
  pub input : List ℕ
  pub output : List ℕ
  pub times : List ℕ
  pub takes : Appends from.source.taken to.source.taken input
  pub leaves : Consumes from.source.left to.source.left input
  pub gives : Appends from.held to.held output
  pub ticks : Gave from.clock.moments times to.clock.moments
  pub called : CalledOnce result from.clock.calls times to.clock.calls
  pub since : Since from.seen to.seen
  pub served : InEach to.seen (λ h. IsQueued c h from.seen.caller from.seen.length to.seen.length input output times result from.queue to.queue)
  pub pieces : (h : History) (lawful : IsLawful h) (fits : Fits to.seen h) → LastTake from.source.last to.source.last (served h lawful fits).served.done input output
  pub fills : Fills result (length input)

abbrev pub GoesOn : Admission → ConnState → Taken → Stand → (List ℕ → List ConnRequest) → Option Served → Type 0
GoesOn c from t new come None = Talks c from t new come
GoesOn c from t new come (Some result) = Ends c from (state_at t new) result

-- however the connection came here, it goes on or ended so
abbrev pub Moves : Admission → Stand → (List ℕ → List ConnRequest) → Stand → (List ℕ → List ConnRequest) → Option Served → Type 0
Moves c old come new come' result = (from : ConnState) (t : Taken) → t.size ≤ 2 ^ 40 → Talks c from t old come → GoesOn c from t new come' result

-- the same where the clock may be called, too
abbrev pub ClockMoves : Admission → ClockTells → Stand → (List ℕ → List ConnRequest) → ClockTells → Stand → (List ℕ → List ConnRequest) → Option Served → Type 0
ClockMoves c clock old come clock' new come' result =
    (from : ConnState) (t : Taken) → t.size ≤ 2 ^ 40 → Talks c from (record t { clock = clock }) old come → GoesOn c from (record t { clock = clock' }) new come' result

-- the same where more was taken, too
abbrev pub MovesOn : Admission → Taken → Stand → (List ℕ → List ConnRequest) → Taken → Stand → (List ℕ → List ConnRequest) → Type 0
MovesOn c t old come t' new come' = (from : ConnState) → Talks c from t old come → Talks c from t' new come'

-- What waited was given, and then the next piece was taken. Where the sink failed nothing was taken.
abbrev pub PieceMoves : SourceTells → SourceTells → Option (List ℕ) → Option (List ℕ) → List ℕ → PieceTaken → Result (Unit {0}) Served → PieceTaken → Type 0
PieceMoves source source' held held' waiting old (Err answer.WriteFault) new = GivesSome held held' waiting × (source' ≡ source)
PieceMoves source source' held held' waiting old result new = Gives held held' waiting [] × TakesNext source source' old result new

-- a connection whose first piece was taken was served to an end, however it came there, where this is what bytes ask
abbrev pub SessionServed : (List ℕ → List ConnRequest) → Admission → PieceTaken → ConnState → ConnState → Served → Type 0
SessionServed asks c input before after result =
    (from : ConnState) → Talks c from (record { source = before.source; clock = before.clock; size = input.taken }) (record { seen = before.seen; held = before.held; queue = before.queue; waiting = []; counts = no_counts }) (λ more. asks (input.piece ++ more))
    → Ends c from after result

-- this request is the next, whatever more bytes come; behind one that closes none is
pub record IsNext (request : ConnRequest) (come come' : List ℕ → List ConnRequest) : Type 0 where
  pub next : (more : List ℕ) → come more ≡ request ∷ come' more
  pub last : closes_conn request ≡ true → (more : List ℕ) → come' more ≡ []

-- the same of a request that asks for no step, whatever the caller has seen and queued
abbrev pub FixedMoves : ConnRequest → Option (List ℕ) → List ℕ → Counts → Option Served → Option (List ℕ) → List ℕ → Counts → Type 0
FixedMoves request held waiting counts result held' waiting' counts' =
    (c : Admission) (seen : Seen) (queue : List Stored) (come come' : List ℕ → List ConnRequest) → IsNext request come come'
    → Moves c (record { seen = seen; held = held; queue = queue; waiting = waiting; counts = counts }) come (record { seen = seen; held = held'; queue = queue; waiting = waiting'; counts = counts' }) come' result

-- ---- causes

-- the sink failed only where its count of faults rose, and a step was stopped only where that of stops did; nothing else is told here
abbrev pub HasEndCause : ℕ → ℕ → ℕ → ℕ → Option Served → Type 0
HasEndCause faults faults' stops stops' None = Unit {0}
HasEndCause faults faults' stops stops' (Some answer.WriteFault) = Rose faults faults'
HasEndCause faults faults' stops stops' (Some answer.Stopped) = Rose stops stops'
HasEndCause faults faults' stops stops' (Some answer.Exit) = Unit {0}
HasEndCause faults faults' stops stops' (Some answer.Die) = Unit {0}
HasEndCause faults faults' stops stops' (Some answer.Closed) = Unit {0}
HasEndCause faults faults' stops stops' (Some answer.OutOfMemory) = Unit {0}
HasEndCause faults faults' stops stops' (Some other) = ⊥

pub record Causes (faults faults' stops stops' : ℕ) (result : Option Served) : Type 0 where
  pub later : faults ≤ faults'
  pub grows : stops ≤ stops'
  pub cause : HasEndCause faults faults' stops stops' result

-- the same where the clock may be asked, which failed only where its count of faults rose
abbrev pub HasClockCause : ℕ → ℕ → ℕ → ℕ → ℕ → ℕ → Option Served → Type 0
HasClockCause faults faults' stops stops' ticks ticks' (Some answer.ClockFault) = Rose ticks ticks'
HasClockCause faults faults' stops stops' ticks ticks' result = HasEndCause faults faults' stops stops' result

pub record ClockCauses (faults faults' stops stops' ticks ticks' : ℕ) (result : Option Served) : Type 0 where
  pub later : faults ≤ faults'
  pub grows : stops ≤ stops'
  pub asked : ticks ≤ ticks'
  pub cause : HasClockCause faults faults' stops stops' ticks ticks' result
