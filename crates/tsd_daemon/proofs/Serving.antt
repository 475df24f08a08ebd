-- A whole connection, from its first piece to its end.
use Rattle.std.proofs.Common.{◌≡◌, ℕ, ◌^◌, ◌≤◌, ◌<◌, Bool, List, [], ◌∷◌, ◌++◌, length, refl, sym, ap, subst, arith}
use Rattle.std.specs.Prelude.{Some, Ok, Err, if◌then◌else◌}
use Rattle.point_put.specs.Admissions.{Admission}
use Rattle.tsd_daemon.specs.declared.served.Served.{Served}
use Rattle.tsd_daemon.specs.declared.served.Served.TheVariants as answer
use Rattle.tsd_daemon.specs.ConnPieces.{PieceTaken, SourceTells, TakesNext, no_piece}
use Rattle.tsd_daemon.specs.ConnReplies.{no_counts}
use Rattle.tsd_daemon.specs.ConnRequests.{begins_http, conn_requests, http_asks, telnet_asks}
use Rattle.tsd_daemon.specs.ServedConns.{AsksBytes, ConnCauses, ConnFaults, ConnTold, Passes, QueuesBytes, ServesBytes, TakesBytes}
use Rattle.tsd_daemon.specs.Talks.{ConnState, Ends, HasClockCause, HasEndCause, Stand, Talks}
use Rattle.tsd_daemon.proofs.Giving.{gave_none}
use Rattle.tsd_daemon.proofs.Pieces.{later_causes, piece_moved, talk_no_piece, talk_piece}
use Rattle.tsd_daemon.proofs.Talking.{talk_come, talk_memory, talk_start}

-- a connection that begins so, before its first request
abbrev first_stand : ConnState → Stand
first_stand from = record { seen = from.seen; held = from.held; queue = from.queue; waiting = []; counts = no_counts }

-- where only its source has told more
abbrev taken_to : ConnState → SourceTells → ConnState
taken_to from source = record from { source = source }

-- what its devices tell
abbrev told_by : ConnState → ConnTold
told_by s = record { taken = s.source.taken; left = s.source.left; held = s.held; moments = s.clock.moments }

-- ---- what a served connection says

pub ends_served : (c : Admission) (from to : ConnState) (result : Served) → Ends c from to result → Passes (told_by from) (told_by to) (ServesBytes c from.seen result to.seen)
ends_served c from to result e = record { input = e.input; output = e.output; times = e.times; takes = e.takes; leaves = e.leaves; gives = e.gives; ticks = e.ticks; so = (record { since = e.since; served = λ h l f. (e.served h l f).served }, e.fills) }

pub ends_queued : (c : Admission) (from to : ConnState) (result : Served) → Ends c from to result → Passes (told_by from) (told_by to) (QueuesBytes c from.seen from.queue result to.seen to.queue)
ends_queued c from to result e = record { input = e.input; output = e.output; times = e.times; takes = e.takes; leaves = e.leaves; gives = e.gives; ticks = e.ticks; so = e.served }

pub ends_asked : (c : Admission) (from to : ConnState) (result : Served) → Ends c from to result → Passes (told_by from) (told_by to) (AsksBytes c from.seen from.clock.calls result to.seen to.clock.calls)
ends_asked c from to result e = record { input = e.input; output = e.output; times = e.times; takes = e.takes; leaves = e.leaves; gives = e.gives; ticks = e.ticks; so = (record { since = e.since; served = λ h l f. (e.served h l f).served }, e.called) }

pub ends_taken : (c : Admission) (from to : ConnState) (result : Served) → Ends c from to result → Passes (told_by from) (told_by to) (TakesBytes c from.seen from.source.last result to.seen to.source.last)
ends_taken c from to result e = record { input = e.input; output = e.output; times = e.times; takes = e.takes; leaves = e.leaves; gives = e.gives; ticks = e.ticks; so = λ h l f. record { served = (e.served h l f).served; last_take = e.pieces h l f } }

-- ---- ends before a session begins

pub none_taken : (c : Admission) (from : ConnState) → Ends c from from answer.OutOfMemory
none_taken c from = talk_memory c from (record { source = from.source; clock = from.clock; size = 0 }) (first_stand from) conn_requests (omega arith) (talk_start c from) refl

started : (c : Admission) (from : ConnState) (input : PieceTaken) → input ≡ no_piece → Talks c from (record { source = from.source; clock = from.clock; size = input.taken }) (first_stand from) conn_requests
started c from input none = subst (λ (i : PieceTaken). Talks c from (record { source = from.source; clock = from.clock; size = i.taken }) (first_stand from) conn_requests) (sym none) (talk_start c from)

least : (input : PieceTaken) → input ≡ no_piece → input.taken ≤ 2 ^ 40
least input none = let e = ap (λ (i : PieceTaken). i.taken) none in omega (arith, e)

pub no_piece_taken : (c : Admission) (from : ConnState) (source : SourceTells) (input new : PieceTaken) (end : Served) → input ≡ no_piece → TakesNext from.source source input (Err end) new → Ends c from (taken_to from source) end
no_piece_taken c from source input new end none t =
    talk_no_piece c from from.source source from.clock (first_stand from) from.held input new end conn_requests (least input none) (started c from input none) refl
    (piece_moved from.source source from.held from.held [] input new (Err end) (gave_none from.held []) t)

-- ---- the first piece

first_piece : (c : Admission) (from : ConnState) (source : SourceTells) (input new : PieceTaken) → input ≡ no_piece → TakesNext from.source source input (Ok tt) new
    → Talks c from (record { source = source; clock = from.clock; size = new.taken }) (first_stand from) (λ more. conn_requests (new.piece ++ more))
first_piece c from source input new none t =
    talk_piece c from from.source source from.clock (first_stand from) from.held input new conn_requests (started c from input none) refl (piece_moved from.source source from.held from.held [] input new (Ok tt) (gave_none from.held []) t)

chosen : (piece more : List ℕ) (b : Bool) → 0 < length piece → begins_http piece ≡ b → conn_requests (piece ++ more) ≡ (if b then http_asks (piece ++ more) else telnet_asks (piece ++ more))
chosen [] more b some e = absurd (omega (arith, some))
chosen (byte ∷ piece) more b some e = ap (λ (t : Bool). if t then http_asks ((byte ∷ piece) ++ more) else telnet_asks ((byte ∷ piece) ++ more)) e

some_bytes : (new : PieceTaken) (more : List ℕ) → (new.piece ≡ more) × (0 < length more) → 0 < length new.piece
some_bytes new more (is, some) = subst (λ (p : List ℕ). 0 < length p) (sym is) some

-- the first byte decides what is asked
pub begins : (c : Admission) (from : ConnState) (source : SourceTells) (input new : PieceTaken) (b : Bool) → input ≡ no_piece → TakesNext from.source source input (Ok tt) new → begins_http new.piece ≡ b
    → Talks c from (record { source = source; clock = from.clock; size = new.taken }) (first_stand from) (λ more. if b then http_asks (new.piece ++ more) else telnet_asks (new.piece ++ more))
begins c from source input new b none t is =
    talk_come c from _ _ (λ more. conn_requests (new.piece ++ more)) (λ more. if b then http_asks (new.piece ++ more) else telnet_asks (new.piece ++ more)) (first_piece c from source input new none t)
    (λ more. sym (chosen new.piece more b (some_bytes new t.more t.next) is))

-- ---- causes

pub no_causes : (faults : ConnFaults) → ConnCauses faults faults answer.OutOfMemory
no_causes faults = record { source = omega arith; sink = omega arith; rows = omega arith; clock = omega arith; cause = tt }

pub reads_later : (reads : ℕ) (before after : ConnFaults) (end : Served) → reads ≤ before.reads → ConnCauses before after end → ConnCauses (record before { reads = reads }) after end
reads_later reads before after end le x = later_causes (record before { reads = reads }) before after end le (omega arith) (omega arith) (omega arith) x

-- a session's own ends aren't that of its source
pub not_end : {P : Type 0} (a b s s' : ℕ) (r : Served) → HasEndCause a b s s' (Some r) → r ≡ answer.End → P
not_end a b s s' r h e = absurd (subst (λ (x : Served). HasEndCause a b s s' (Some x)) e h)

pub not_clock_end : {P : Type 0} (a b s s' t t' : ℕ) (r : Served) → HasClockCause a b s s' t t' (Some r) → r ≡ answer.End → P
not_clock_end a b s s' t t' r h e = absurd (subst (λ (x : Served). HasClockCause a b s s' t t' (Some x)) e h)
