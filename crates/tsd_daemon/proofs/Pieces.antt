-- How a connection goes on by a piece that is taken, and the causes of its end.
use Rattle.std.proofs.Common.{◌≡◌, ℕ, ◌+◌, ◌^◌, ◌≤◌, List, [], ◌++◌, map, length, refl, sym, ap, subst, ◌∙◌, add-zero, arith}
use Rattle.std.specs.Prelude.{Option, None, Some, Result, Ok, Err, IfErr}
use Rattle.tsd_io.specs.Causes.{Rose}
use Rattle.telnet_put.specs.Requests.{Request}
use Rattle.telnet_put.specs.Sessions as sessions
use Rattle.telnet_put.specs.Unread.{Unread}
use Rattle.point_put.specs.Admissions.{Admission}
use Rattle.tsd_daemon.specs.declared.served.Served.{Served}
use Rattle.tsd_daemon.specs.declared.served.Served.TheVariants as answer
use Rattle.tsd_daemon.specs.ConnClocks.{ClockTells}
use Rattle.tsd_daemon.specs.ConnPieces.{IsLast, PieceTaken, SourceTells, TakesNext}
use Rattle.tsd_daemon.specs.ConnRequests.{ConnRequest}
use Rattle.tsd_daemon.specs.ConnRequests.ConnRequest.{Telnet}
use Rattle.tsd_daemon.specs.ServedConns.{ConnCauses, ConnFaults, HasConnCause}
use Rattle.tsd_daemon.specs.Talks.{Causes, ClockCauses, ConnState, Ends, Gives, HasClockCause, HasEndCause, IsNext, PieceMoves, Stand, Talks, telnet_to_come}
use Rattle.tsd_daemon.proofs.Talking.{Quiet, talk_failed, talk_gave, talk_quiet, talk_still, talk_took}

-- ---- causes

rose_later : (a b d : ℕ) → a ≤ b → Rose b d → Rose a d
rose_later a b d le r = omega (arith, le, r)

rose_more : (a b d : ℕ) → b ≤ d → Rose a b → Rose a d
rose_more a b d le r = omega (arith, le, r)

later_cause : (a b d s s' s'' : ℕ) (r : Option Served) → a ≤ b → s ≤ s' → HasEndCause b d s' s'' r → HasEndCause a d s s'' r
later_cause a b d s s' s'' None le sle h = tt
later_cause a b d s s' s'' (Some answer.WriteFault) le sle h = rose_later a b d le h
later_cause a b d s s' s'' (Some answer.Stopped) le sle h = rose_later s s' s'' sle h
later_cause a b d s s' s'' (Some answer.Exit) le sle h = tt
later_cause a b d s s' s'' (Some answer.Die) le sle h = tt
later_cause a b d s s' s'' (Some answer.OutOfMemory) le sle h = tt
later_cause a b d s s' s'' (Some answer.End) le sle h = absurd h
later_cause a b d s s' s'' (Some answer.Closed) le sle h = tt
later_cause a b d s s' s'' (Some answer.ReadFault) le sle h = absurd h
later_cause a b d s s' s'' (Some answer.ClockFault) le sle h = absurd h
later_cause a b d s s' s'' (Some answer.SessionFull) le sle h = absurd h

-- one after the other
pub causes_on : (a b d s s' s'' : ℕ) (r : Option Served) → Causes a b s s' None → Causes b d s' s'' r → Causes a d s s'' r
causes_on a b d s s' s'' r x y = record {
  later = let p = x.later in let q = y.later in omega (arith, p, q);
  grows = let p = x.grows in let q = y.grows in omega (arith, p, q);
  cause = later_cause a b d s s' s'' r x.later x.grows y.cause;
}

-- the clock isn't asked
as_clock_cause : (a b s s' t t' : ℕ) (r : Option Served) → HasEndCause a b s s' r → HasClockCause a b s s' t t' r
as_clock_cause a b s s' t t' None h = h
as_clock_cause a b s s' t t' (Some answer.ClockFault) h = absurd h
as_clock_cause a b s s' t t' (Some answer.End) h = h
as_clock_cause a b s s' t t' (Some answer.Exit) h = h
as_clock_cause a b s s' t t' (Some answer.Die) h = h
as_clock_cause a b s s' t t' (Some answer.Closed) h = h
as_clock_cause a b s s' t t' (Some answer.ReadFault) h = h
as_clock_cause a b s s' t t' (Some answer.WriteFault) h = h
as_clock_cause a b s s' t t' (Some answer.Stopped) h = h
as_clock_cause a b s s' t t' (Some answer.SessionFull) h = h
as_clock_cause a b s s' t t' (Some answer.OutOfMemory) h = h

pub clock_causes : (a b s s' t t' : ℕ) (r : Option Served) → t ≤ t' → Causes a b s s' r → ClockCauses a b s s' t t' r
clock_causes a b s s' t t' r le x = record { later = x.later; grows = x.grows; asked = le; cause = as_clock_cause a b s s' t t' r x.cause }

-- the clock failed
pub clock_fails : (a s t t' : ℕ) → t ≤ t' → Rose t t' → ClockCauses a a s s t t' (Some answer.ClockFault)
clock_fails a s t t' le rose = record { later = omega arith; grows = omega arith; asked = le; cause = rose }

later_clock_cause : (a b d s s' s'' t t' t'' : ℕ) (r : Option Served) → a ≤ b → s ≤ s' → t ≤ t' → HasClockCause b d s' s'' t' t'' r → HasClockCause a d s s'' t t'' r
later_clock_cause a b d s s' s'' t t' t'' None le sle tle h = tt
later_clock_cause a b d s s' s'' t t' t'' (Some answer.ClockFault) le sle tle h = rose_later t t' t'' tle h
later_clock_cause a b d s s' s'' t t' t'' (Some answer.WriteFault) le sle tle h = rose_later a b d le h
later_clock_cause a b d s s' s'' t t' t'' (Some answer.Stopped) le sle tle h = rose_later s s' s'' sle h
later_clock_cause a b d s s' s'' t t' t'' (Some answer.Exit) le sle tle h = tt
later_clock_cause a b d s s' s'' t t' t'' (Some answer.Die) le sle tle h = tt
later_clock_cause a b d s s' s'' t t' t'' (Some answer.Closed) le sle tle h = tt
later_clock_cause a b d s s' s'' t t' t'' (Some answer.OutOfMemory) le sle tle h = tt
later_clock_cause a b d s s' s'' t t' t'' (Some answer.End) le sle tle h = absurd h
later_clock_cause a b d s s' s'' t t' t'' (Some answer.ReadFault) le sle tle h = absurd h
later_clock_cause a b d s s' s'' t t' t'' (Some answer.SessionFull) le sle tle h = absurd h

-- one after the other
pub clock_causes_on : (a b d s s' s'' t t' t'' : ℕ) (r : Option Served) → ClockCauses a b s s' t t' None → ClockCauses b d s' s'' t' t'' r → ClockCauses a d s s'' t t'' r
clock_causes_on a b d s s' s'' t t' t'' r x y = record {
  later = let p = x.later in let q = y.later in omega (arith, p, q);
  grows = let p = x.grows in let q = y.grows in omega (arith, p, q);
  asked = let p = x.asked in let q = y.asked in omega (arith, p, q);
  cause = later_clock_cause a b d s s' s'' t t' t'' r x.later x.grows x.asked y.cause;
}

-- a session ended where nothing was read
pub conn_causes : (before after : ConnFaults) (b s' t' : ℕ) (r : Served) → before.reads ≤ after.reads → before.writes ≤ b → before.stops ≤ s' → before.ticks ≤ t' → ClockCauses b after.writes s' after.stops t' after.ticks (Some r) → ConnCauses before after r
conn_causes before after b s' t' r rle le sle tle x = record {
  source = rle;
  sink = let q = x.later in omega (arith, le, q);
  rows = let q = x.grows in omega (arith, sle, q);
  clock = let q = x.asked in omega (arith, tle, q);
  cause = at r (later_clock_cause before.writes b after.writes before.stops s' after.stops before.ticks t' after.ticks (Some r) le sle tle x.cause);
}
  where
    at : (r : Served) → HasClockCause before.writes after.writes before.stops after.stops before.ticks after.ticks (Some r) → HasConnCause before after r
    at answer.WriteFault h = h
    at answer.Stopped h = h
    at answer.Exit h = tt
    at answer.Die h = tt
    at answer.OutOfMemory h = tt
    at answer.End h = tt
    at answer.Closed h = tt
    at answer.ReadFault h = absurd h
    at answer.ClockFault h = h
    at answer.SessionFull h = tt

pub taken_causes : (source source' : SourceTells) (old new : PieceTaken) (reads reads' writes writes' : ℕ) (r : Result (Unit {0}) Served) → TakesNext source source' old r new → reads ≤ reads' → writes ≤ writes' → (r ≡ Err answer.ReadFault → Rose reads reads')
    → IfErr r (λ end. (stops ticks : ℕ) → ConnCauses (record { reads = reads; writes = writes; stops = stops; ticks = ticks }) (record { reads = reads'; writes = writes'; stops = stops; ticks = ticks }) end)
taken_causes source source' old new reads reads' writes writes' (Ok x) t rle wle failed = tt
taken_causes source source' old new reads reads' writes writes' (Err answer.End) t rle wle failed = λ stops ticks. record { source = rle; sink = wle; rows = omega arith; clock = omega arith; cause = tt }
taken_causes source source' old new reads reads' writes writes' (Err answer.ReadFault) t rle wle failed = λ stops ticks. record { source = rle; sink = wle; rows = omega arith; clock = omega arith; cause = failed refl }
taken_causes source source' old new reads reads' writes writes' (Err answer.SessionFull) t rle wle failed = λ stops ticks. record { source = rle; sink = wle; rows = omega arith; clock = omega arith; cause = tt }
taken_causes source source' old new reads reads' writes writes' (Err answer.WriteFault) t rle wle failed = λ stops ticks. absurd t.next
taken_causes source source' old new reads reads' writes writes' (Err answer.Stopped) t rle wle failed = λ stops ticks. absurd t.next
taken_causes source source' old new reads reads' writes writes' (Err answer.Exit) t rle wle failed = λ stops ticks. absurd t.next
taken_causes source source' old new reads reads' writes writes' (Err answer.Die) t rle wle failed = λ stops ticks. absurd t.next
taken_causes source source' old new reads reads' writes writes' (Err answer.Closed) t rle wle failed = λ stops ticks. absurd t.next
taken_causes source source' old new reads reads' writes writes' (Err answer.ClockFault) t rle wle failed = λ stops ticks. absurd t.next
taken_causes source source' old new reads reads' writes writes' (Err answer.OutOfMemory) t rle wle failed = λ stops ticks. absurd t.next

-- after what came before
pub later_causes : (first before after : ConnFaults) (end : Served) → first.reads ≤ before.reads → first.writes ≤ before.writes → first.stops ≤ before.stops → first.ticks ≤ before.ticks → ConnCauses before after end → ConnCauses first after end
later_causes first before after end rle wle sle tle x = record {
  source = let q = x.source in omega (arith, rle, q);
  sink = let q = x.sink in omega (arith, wle, q);
  rows = let q = x.rows in omega (arith, sle, q);
  clock = let q = x.clock in omega (arith, tle, q);
  cause = at end x.cause;
}
  where
    at : (end : Served) → HasConnCause before after end → HasConnCause first after end
    at answer.ReadFault h = rose_later first.reads before.reads after.reads rle h
    at answer.WriteFault h = rose_later first.writes before.writes after.writes wle h
    at answer.Stopped h = rose_later first.stops before.stops after.stops sle h
    at answer.ClockFault h = rose_later first.ticks before.ticks after.ticks tle h
    at answer.Exit h = tt
    at answer.Die h = tt
    at answer.OutOfMemory h = tt
    at answer.End h = tt
    at answer.Closed h = tt
    at answer.SessionFull h = tt

-- ---- pieces

pub piece_moved : (source source' : SourceTells) (held held' : Option (List ℕ)) (waiting : List ℕ) (old new : PieceTaken) (r : Result (Unit {0}) Served) → Gives held held' waiting [] → TakesNext source source' old r new → PieceMoves source source' held held' waiting old r new
piece_moved source source' held held' waiting old new (Ok x) g t = (g, t)
piece_moved source source' held held' waiting old new (Err answer.WriteFault) g t = absurd t.next
piece_moved source source' held held' waiting old new (Err answer.End) g t = (g, t)
piece_moved source source' held held' waiting old new (Err answer.ReadFault) g t = (g, t)
piece_moved source source' held held' waiting old new (Err answer.SessionFull) g t = (g, t)
piece_moved source source' held held' waiting old new (Err answer.Stopped) g t = (g, t)
piece_moved source source' held held' waiting old new (Err answer.Exit) g t = (g, t)
piece_moved source source' held held' waiting old new (Err answer.Die) g t = (g, t)
piece_moved source source' held held' waiting old new (Err answer.Closed) g t = (g, t)
piece_moved source source' held held' waiting old new (Err answer.ClockFault) g t = (g, t)
piece_moved source source' held held' waiting old new (Err answer.OutOfMemory) g t = (g, t)

-- what waited was given, and a piece was taken
pub talk_piece : (c : Admission) (from : ConnState) (source source' : SourceTells) (clock : ClockTells) (now : Stand) (held' : Option (List ℕ)) (input new : PieceTaken) (come : List ℕ → List ConnRequest)
    → Talks c from (record { source = source; clock = clock; size = input.taken }) now come → come [] ≡ [] → PieceMoves source source' now.held held' now.waiting input (Ok tt) new
    → Talks c from (record { source = source'; clock = clock; size = new.taken }) (record { seen = now.seen; held = held'; queue = now.queue; waiting = []; counts = now.counts }) (λ more. come (new.piece ++ more))
talk_piece c from source source' clock now held' input new come k none (g, t) =
    subst (λ (piece : List ℕ). Talks c from (record { source = source'; clock = clock; size = new.taken }) (record { seen = now.seen; held = held'; queue = now.queue; waiting = []; counts = now.counts }) (λ more. come (piece ++ more))) (sym t.next.0)
    (talk_took c from (record { source = source; clock = clock; size = input.taken }) source' new.taken _ come t.more (talk_gave c from _ now held' come k g) refl none t.takes t.leaves t.count t.within t.gave)

-- what waited was given, and the last take gave nothing
quiet_end : (c : Admission) (from : ConnState) (source source' : SourceTells) (clock : ClockTells) (now : Stand) (held' : Option (List ℕ)) (input new : PieceTaken) (r : Result (Unit {0}) Served) (come : List ℕ → List ConnRequest)
    → Talks c from (record { source = source; clock = clock; size = input.taken }) now come → come [] ≡ [] → Gives now.held held' now.waiting [] → (t : TakesNext source source' input r new) → t.more ≡ [] → IsLast source'.last t.more
    → Quiet c from (record { source = source'; clock = clock; size = input.taken }) (record { seen = now.seen; held = held'; queue = now.queue; waiting = []; counts = now.counts })
quiet_end c from source source' clock now held' input new r come k none g t nothing is =
    let grows : input.taken ≡ input.taken + length t.more = sym (ap (λ (m : List ℕ). input.taken + length m) nothing ∙ add-zero input.taken) in
    talk_quiet c from (record { source = source'; clock = clock; size = input.taken }) (record { seen = now.seen; held = held'; queue = now.queue; waiting = []; counts = now.counts }) (λ more. come (t.more ++ more))
    (talk_took c from (record { source = source; clock = clock; size = input.taken }) source' input.taken _ come t.more (talk_gave c from _ now held' come k g) refl none t.takes t.leaves grows t.within is)
    refl (ap (λ (m : List ℕ). come (m ++ [])) nothing ∙ none)

-- and no take was made
full_end : (c : Admission) (from : ConnState) (source source' : SourceTells) (clock : ClockTells) (now : Stand) (held' : Option (List ℕ)) (input new : PieceTaken) (r : Result (Unit {0}) Served) (come : List ℕ → List ConnRequest)
    → Talks c from (record { source = source; clock = clock; size = input.taken }) now come → come [] ≡ [] → Gives now.held held' now.waiting [] → (t : TakesNext source source' input r new) → t.more ≡ [] → source'.last ≡ source.last
    → Quiet c from (record { source = source'; clock = clock; size = input.taken }) (record { seen = now.seen; held = held'; queue = now.queue; waiting = []; counts = now.counts })
full_end c from source source' clock now held' input new r come k none g t nothing same =
    let grows : input.taken ≡ input.taken + length t.more = sym (ap (λ (m : List ℕ). input.taken + length m) nothing ∙ add-zero input.taken) in
    talk_quiet c from (record { source = source'; clock = clock; size = input.taken }) (record { seen = now.seen; held = held'; queue = now.queue; waiting = []; counts = now.counts }) (λ more. come (t.more ++ more))
    (talk_still c from (record { source = source; clock = clock; size = input.taken }) source' input.taken _ come t.more (talk_gave c from _ now held' come k g) nothing t.takes t.leaves grows same)
    refl (ap (λ (m : List ℕ). come (m ++ [])) nothing ∙ none)

pub talk_no_piece : (c : Admission) (from : ConnState) (source source' : SourceTells) (clock : ClockTells) (now : Stand) (held' : Option (List ℕ)) (input new : PieceTaken) (end : Served) (come : List ℕ → List ConnRequest)
    → input.taken ≤ 2 ^ 40 → Talks c from (record { source = source; clock = clock; size = input.taken }) now come → come [] ≡ [] → PieceMoves source source' now.held held' now.waiting input (Err end) new
    → Ends c from (record { seen = now.seen; source = source'; clock = clock; held = held'; queue = now.queue }) end
talk_no_piece c from source source' clock now held' input new answer.WriteFault come le k none (g, same) =
    subst (λ (s : SourceTells). Ends c from (record { seen = now.seen; source = s; clock = clock; held = held'; queue = now.queue }) answer.WriteFault) (sym same) (talk_failed c from (record { source = source; clock = clock; size = input.taken }) now held' come le k g)
talk_no_piece c from source source' clock now held' input new answer.End come le k none (g, t) = (quiet_end c from source source' clock now held' input new (Err answer.End) come k none g t t.next.0 t.gave).end t.next.1
talk_no_piece c from source source' clock now held' input new answer.ReadFault come le k none (g, t) = (quiet_end c from source source' clock now held' input new (Err answer.ReadFault) come k none g t t.next.0 t.gave).failed t.next.1
talk_no_piece c from source source' clock now held' input new answer.SessionFull come le k none (g, t) = (full_end c from source source' clock now held' input new (Err answer.SessionFull) come k none g t t.next.0 t.gave).full t.next.1
talk_no_piece c from source source' clock now held' input new answer.Stopped come le k none (g, t) = absurd t.next
talk_no_piece c from source source' clock now held' input new answer.Exit come le k none (g, t) = absurd t.next
talk_no_piece c from source source' clock now held' input new answer.Die come le k none (g, t) = absurd t.next
talk_no_piece c from source source' clock now held' input new answer.Closed come le k none (g, t) = absurd t.next
talk_no_piece c from source source' clock now held' input new answer.ClockFault come le k none (g, t) = absurd t.next
talk_no_piece c from source source' clock now held' input new answer.OutOfMemory come le k none (g, t) = absurd t.next

-- ---- telnet requests that are to come

pub next_of : (old new : Unread) (request : Request) → sessions.Gives old request new → IsNext (Telnet request) (telnet_to_come old) (telnet_to_come new)
next_of old new request g = record { next = λ more. ap (map Telnet) (g.next more); last = λ closes more. ap (map Telnet) (g.last closes more) }

pub same_come : (old new : Unread) → sessions.ComesAs old new → (more : List ℕ) → telnet_to_come new more ≡ telnet_to_come old more
same_come old new same more = ap (map Telnet) (same more)

pub none_come : (old new : Unread) → sessions.Waits old new → telnet_to_come new [] ≡ []
none_come old new w = ap (map Telnet) (w.same [] ∙ w.none)

pub fed_come : (old new : Unread) (piece fed : List ℕ) → piece ≡ fed → ((more : List ℕ) → sessions.to_come new more ≡ sessions.to_come old (piece ++ more)) → (more : List ℕ) → telnet_to_come new more ≡ telnet_to_come old (fed ++ more)
fed_come old new piece fed is same more = ap (map Telnet) (same more ∙ ap (λ (p : List ℕ). sessions.to_come old (p ++ more)) is)
