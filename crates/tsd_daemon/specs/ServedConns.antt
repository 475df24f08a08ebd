-- What a connection was served, over a history.
use Rattle.std.specs.Prelude.{◌≡◌, ℕ, ◌^◌, ◌<◌, ◌≤◌, false, true, List, [], ◌∷◌, ◌++◌, length, Option, None, Some, option_to_list}
use Rattle.std.specs.List.{list_any}
use Rattle.std.specs.Io.KnownBytes.{Appends, Consumes}
use Rattle.tsd_io.specs.Causes.{Rose}
use Rattle.cell_model.specs.declared.answers.Stored.{Stored}
use Rattle.cell_model.specs.declared.events.Placed.{Placed}
use Rattle.cell_model.specs.History.{History}
use Rattle.cell_model.specs.Seen.{Seen, InEach}
use Rattle.cell_model.specs.Deeds.{deeds, Extends, Since}
use Rattle.compactor.specs.Queues.{HasRows}
use Rattle.point_put.specs.Admissions.{Admission}
use Rattle.queued_put.specs.PutRows.{MayHaveRows}
use Rattle.tsd_daemon.specs.declared.served.Served.{Served}
use Rattle.tsd_daemon.specs.declared.served.Served.TheVariants as answer
use Rattle.tsd_daemon.specs.ConnClocks.{CalledOnce, Gave}
use Rattle.tsd_daemon.specs.ConnRequests.{ConnRequest, asks_clock, closes_conn, conn_requests, end_of}
use Rattle.tsd_daemon.specs.Exchanges.{Exchange, moments_in, requests_in, replies_in, rows_in, BegunBetween, Ran}
use Rattle.tsd_daemon.specs.LastPieces.{LastTake, TakenLast}

-- ---- the table of answers

-- each request of the input was answered, all replies were given, the clock gave the requests' moments alone, and the caller made no later entry
pub record AllAnswered (done : List Exchange) (input output times : List ℕ) (later : List Placed) : Type 0 where
  pub requests : conn_requests input ≡ requests_in done
  pub replies : output ≡ replies_in done
  pub moments : times ≡ moments_in done
  pub no_later : later ≡ []

-- the same, and no request closes
pub record Rests (done : List Exchange) (input output times : List ℕ) (later : List Placed) : Type 0 where
  pub all : AllAnswered done input output times later
  pub open_still : list_any closes_conn (requests_in done) ≡ false

-- the same, and the last request ends the connection with this answer
pub record Closes (result : Served) (done : List Exchange) (input output times : List ℕ) (later : List Placed) : Type 0 where
  pub all : AllAnswered done input output times later
  pub before : List ConnRequest
  pub last : ConnRequest
  pub ends : requests_in done ≡ before ++ last ∷ []
  pub with_it : end_of last ≡ Some result

-- the first of these requests was begun between two lengths of the history with this moment of the clock, and the caller made no other entry
abbrev pub FirstBegun : Admission → History → ℕ → ℕ → ℕ → Option ℕ → List ConnRequest → Type 0
FirstBegun c h caller n n2 moment [] = (moment ≡ None) × (deeds h caller n n2 ≡ [])
FirstBegun c h caller n n2 moment (request ∷ rest) = BegunBetween c h caller n n2 moment request

-- the first requests of the input were answered, their replies were given, and the next was begun
pub record BreaksOff (c : Admission) (h : History) (caller n n2 : ℕ) (done : List Exchange) (input output times : List ℕ) : Type 0 where
  pub rest : List ConnRequest
  pub requests : conn_requests input ≡ requests_in done ++ rest
  pub replies : output ≡ replies_in done
  pub moment : Option ℕ
  pub moments : times ≡ moments_in done ++ option_to_list moment
  pub begun : FirstBegun c h caller n n2 moment rest

-- the first requests of the input were answered, their replies were given, and the next asks the clock, which gave no moment for it
pub record LacksMoment (done : List Exchange) (input output times : List ℕ) (later : List Placed) : Type 0 where
  pub request : ConnRequest
  pub rest : List ConnRequest
  pub requests : conn_requests input ≡ requests_in done ++ request ∷ rest
  pub asks : asks_clock request ≡ true
  pub replies : output ≡ replies_in done
  pub moments : times ≡ moments_in done
  pub no_later : later ≡ []

-- the first requests were answered, a front of their replies was given, and the caller made no later entry
pub record GivesFront (done : List Exchange) (input output times : List ℕ) (later : List Placed) : Type 0 where
  pub rest : List ConnRequest
  pub requests : conn_requests input ≡ requests_in done ++ rest
  pub unsent : List ℕ
  pub replies : output ++ unsent ≡ replies_in done
  pub moments : times ≡ moments_in done
  pub no_later : later ≡ []

-- where the last of these exchanges ended at one length of the history and the connection at another
abbrev pub Table : Served → Admission → History → ℕ → ℕ → ℕ → List Exchange → List ℕ → List ℕ → List ℕ → Type 0
Table answer.End c h caller n n2 done input output times = Rests done input output times (deeds h caller n n2)
Table answer.ReadFault c h caller n n2 done input output times = Rests done input output times (deeds h caller n n2)
Table answer.SessionFull c h caller n n2 done input output times = Rests done input output times (deeds h caller n n2)
Table answer.Exit c h caller n n2 done input output times = Closes answer.Exit done input output times (deeds h caller n n2)
Table answer.Die c h caller n n2 done input output times = Closes answer.Die done input output times (deeds h caller n n2)
Table answer.Closed c h caller n n2 done input output times = Closes answer.Closed done input output times (deeds h caller n n2)
Table answer.ClockFault c h caller n n2 done input output times = LacksMoment done input output times (deeds h caller n n2)
Table answer.Stopped c h caller n n2 done input output times = BreaksOff c h caller n n2 done input output times
Table answer.OutOfMemory c h caller n n2 done input output times = BreaksOff c h caller n n2 done input output times
Table answer.WriteFault c h caller n n2 done input output times = GivesFront done input output times (deeds h caller n n2)

-- ---- over a history

-- One caller of the history served a connection between the lengths n and n2: these bytes were taken and these given, the clock gave these moments, and the
-- answer was this.
pub record IsServed (c : Admission) (h : History) (caller n n2 : ℕ) (input output times : List ℕ) (result : Served) : Type 0 where
  pub done : List Exchange
  pub last : ℕ
  pub in_range : last ≤ n2
  pub ran : Ran c h caller n done last
  pub table : Table result c h caller last n2 done input output times
  pub pieces : TakenLast done input output

-- the same, and the last take was made only where all that had come was answered, with what the source told of its last take before and after
pub record AnswersFirst (c : Admission) (h : History) (caller n n2 : ℕ) (input output times : List ℕ) (result : Served) (last last' : Option (List ℕ)) : Type 0 where
  pub served : IsServed c h caller n n2 input output times result
  pub last_take : LastTake last last' served.done input output

-- so it was served in each lawful history that fits what the caller has seen after it
pub record Serves (c : Admission) (old : Seen) (input output times : List ℕ) (result : Served) (new : Seen) : Type 0 where
  pub since : Since old new
  pub served : InEach new (λ h. IsServed c h old.caller old.length new.length input output times result)

-- so it stays in each lawful history that fits what is seen later, by another caller too
abbrev pub ServesStands : Type 0
ServesStands = (c : Admission) (old new later : Seen) (input output times : List ℕ) (result : Served) → Serves c old input output times result new → Extends new later
    → InEach later (λ h. IsServed c h old.caller old.length new.length input output times result)

-- 2^40 bytes fill a session, and fewer do none
abbrev pub Fills : Served → ℕ → Type 0
Fills answer.SessionFull count = count ≡ 2 ^ 40
Fills answer.End count = count < 2 ^ 40
Fills answer.ReadFault count = count < 2 ^ 40
Fills result count = count ≤ 2 ^ 40

-- ---- the queue

-- the rows of the requests that were answered, and of one that was begun perhaps some
abbrev pub QueueTable : Served → List Stored → List Stored → List Placed → List Stored → Type 0
QueueTable answer.Stopped before rows later after = MayHaveRows before rows later after
QueueTable answer.OutOfMemory before rows later after = MayHaveRows before rows later after
QueueTable result before rows later after = HasRows before rows after

-- the connection was served so, and the queue has the rows of the points that were accepted for the requests that were answered
pub record IsQueued (c : Admission) (h : History) (caller n n2 : ℕ) (input output times : List ℕ) (result : Served) (before after : List Stored) : Type 0 where
  pub served : IsServed c h caller n n2 input output times result
  pub queued : QueueTable result before (rows_in served.done) (deeds h caller served.last n2) after

abbrev pub Queues : Admission → Seen → List Stored → List ℕ → List ℕ → List ℕ → Served → Seen → List Stored → Type 0
Queues c old before input output times result new after = InEach new (λ h. IsQueued c h old.caller old.length new.length input output times result before after)

-- ---- the bytes and the moments of a call

-- what the devices of a connection tell: the bytes that were taken of its source and those that are left, those that its sink holds, and the moments that its clock has to give
pub record ConnTold : Type 0 where
  pub taken : Option (List ℕ)
  pub left : Option (List ℕ)
  pub held : Option (List ℕ)
  pub moments : Option (List ℕ)

-- these bytes were taken and these given, the clock gave these moments, and so it is of them
pub record Passes (before after : ConnTold) (P : List ℕ → List ℕ → List ℕ → Type 0) : Type 0 where
  pub input : List ℕ
  pub output : List ℕ
  pub times : List ℕ
  pub takes : Appends before.taken after.taken input
  pub leaves : Consumes before.left after.left input
  pub gives : Appends before.held after.held output
  pub ticks : Gave before.moments times after.moments
  pub so : P input output times

abbrev pub ServesBytes : Admission → Seen → Served → Seen → List ℕ → List ℕ → List ℕ → Type 0
ServesBytes c old result new input output times = Serves c old input output times result new × Fills result (length input)

-- so it was served, and the clock was called for its moments alone, once for each, and once more where it failed
abbrev pub AsksBytes : Admission → Seen → Option ℕ → Served → Seen → Option ℕ → List ℕ → List ℕ → List ℕ → Type 0
AsksBytes c old calls result new calls' input output times = Serves c old input output times result new × CalledOnce result calls times calls'

abbrev pub QueuesBytes : Admission → Seen → List Stored → Served → Seen → List Stored → List ℕ → List ℕ → List ℕ → Type 0
QueuesBytes c old before result new after input output times = Queues c old before input output times result new after

-- so it was served, and the last take was made only where all that had come was answered
abbrev pub TakesBytes : Admission → Seen → Option (List ℕ) → Served → Seen → Option (List ℕ) → List ℕ → List ℕ → List ℕ → Type 0
TakesBytes c old last result new last' input output times = InEach new (λ h. AnswersFirst c h old.caller old.length new.length input output times result last last')

-- ---- causes

-- how often its source, its sink and its clock failed, and how many steps of its caller were stopped
pub record ConnFaults : Type 0 where
  pub reads : ℕ
  pub writes : ℕ
  pub stops : ℕ
  pub ticks : ℕ

-- the source failed only where its count of faults rose, and so with the sink, with stops and with the clock
abbrev pub HasConnCause : ConnFaults → ConnFaults → Served → Type 0
HasConnCause before after answer.ReadFault = Rose before.reads after.reads
HasConnCause before after answer.WriteFault = Rose before.writes after.writes
HasConnCause before after answer.Stopped = Rose before.stops after.stops
HasConnCause before after answer.ClockFault = Rose before.ticks after.ticks
HasConnCause before after other = Unit {0}

pub record ConnCauses (before after : ConnFaults) (result : Served) : Type 0 where
  pub source : before.reads ≤ after.reads
  pub sink : before.writes ≤ after.writes
  pub rows : before.stops ≤ after.stops
  pub clock : before.ticks ≤ after.ticks
  pub cause : HasConnCause before after result
