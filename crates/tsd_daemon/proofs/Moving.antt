-- How one call moves a connection.
use Rattle.std.proofs.Common.{◌≡◌, inl, inr, ℕ, true, false, true≢false, List, [], ◌++◌, refl, sym, subst}
use Rattle.std.specs.Prelude.{Option, None, Some, option_to_list}
use Rattle.tsd_base.specs.Points.{DataPoint}
use Rattle.cell_laws.proofs.CallerLemmas.{nothing_made}
use Rattle.cell_model.specs.declared.answers.Stored.{Stored}
use Rattle.cell_model.specs.History.{first}
use Rattle.cell_model.specs.Seen.{Seen}
use Rattle.cell_model.specs.Deeds.{deeds}
use Rattle.compactor.proofs.CallerLemmas.{rows_none}
use Rattle.point_put.specs.Admissions.{Admission}
use Rattle.telnet_put.specs.Requests.{Request}
use Rattle.telnet_put.specs.Requests.Request.{Put, Version, Help, Stats, DropCaches, Exit, Die, TooLong, Other}
use Rattle.tsd_daemon.specs.declared.served.Served.{Served}
use Rattle.tsd_daemon.specs.declared.served.Served.TheVariants as answer
use Rattle.tsd_daemon.specs.declared.counts.Counts.{Counts}
use Rattle.tsd_daemon.specs.declared.counts.Counted.{Counted}
use Rattle.tsd_io.specs.Ticks.{IsCalled}
use Rattle.tsd_daemon.specs.ConnClocks.{ClockTells, Ticked}
use Rattle.tsd_daemon.specs.ConnRequests.{ConnRequest, asks_clock, end_of, point_asked}
use Rattle.tsd_daemon.specs.ConnRequests.ConnRequest.{Telnet}
use Rattle.tsd_daemon.specs.ConnReplies.{counts_with, fixed_reply}
use Rattle.tsd_daemon.specs.Exchanges.{AnsweredBy, is_put}
use Rattle.tsd_daemon.specs.Talks.{ClockMoves, Ends, FixedMoves, Gives, GivesLast, GivesReply, GivesSome, IsNext, Moves, Replied, Stand, Talks, WasBegun, counted_as}
use Rattle.tsd_daemon.proofs.GivenMoments.{no_ticks}
use Rattle.tsd_daemon.proofs.TalkLemmas.{BreaksSo}
use Rattle.tsd_daemon.proofs.Talking.{Requests, talk_begun, talk_broken, talk_closed, talk_come, talk_failed, talk_gave, talk_momentless, talk_replied, talk_unsent}

-- ---- one request

-- it was answered, and its reply told, at once or later; or the sink failed
pub clock_replied : (c : Admission) (old : Stand) (clock clock' : ClockTells) (moment : Option ℕ) (request : ConnRequest) (seen : Seen) (held : Option (List ℕ)) (queue : List Stored) (waiting : List ℕ) (counts : Counts) (reply : List ℕ) (how : Counted) (result : Option Served) (come come' : Requests)
    → Ticked clock (option_to_list moment) clock' → Replied c old.counts moment request old.seen old.queue reply how seen queue → GivesReply old.held held (old.waiting ++ reply) waiting result → counts ≡ counts_with old.counts how → end_of request ≡ None → IsNext request come come'
    → ClockMoves c clock old come clock' (record { seen = seen; held = held; queue = queue; waiting = waiting; counts = counts }) come' result
clock_replied c old clock clock' moment request seen held queue waiting counts reply how None come come' given r g is still next from t le k =
    subst (λ (n : Counts). Talks c from (record t { clock = clock' }) (record { seen = seen; held = held; queue = queue; waiting = waiting; counts = n }) come') (sym is)
    (talk_replied c from (record t { clock = clock }) clock' old seen held queue waiting come come' moment request reply how k given next r g still)
clock_replied c old clock clock' moment request seen held queue waiting counts reply how (Some answer.WriteFault) come come' given r g is still next from t le k =
    talk_unsent c from (record t { clock = clock }) clock' old seen held queue come come' moment request reply how le k given next r g
clock_replied c old clock clock' moment request seen held queue waiting counts reply how (Some answer.End) come come' given r g is still next from t le k = absurd g
clock_replied c old clock clock' moment request seen held queue waiting counts reply how (Some answer.Exit) come come' given r g is still next from t le k = absurd g
clock_replied c old clock clock' moment request seen held queue waiting counts reply how (Some answer.Die) come come' given r g is still next from t le k = absurd g
clock_replied c old clock clock' moment request seen held queue waiting counts reply how (Some answer.Closed) come come' given r g is still next from t le k = absurd g
clock_replied c old clock clock' moment request seen held queue waiting counts reply how (Some answer.ReadFault) come come' given r g is still next from t le k = absurd g
clock_replied c old clock clock' moment request seen held queue waiting counts reply how (Some answer.ClockFault) come come' given r g is still next from t le k = absurd g
clock_replied c old clock clock' moment request seen held queue waiting counts reply how (Some answer.Stopped) come come' given r g is still next from t le k = absurd g
clock_replied c old clock clock' moment request seen held queue waiting counts reply how (Some answer.SessionFull) come come' given r g is still next from t le k = absurd g
clock_replied c old clock clock' moment request seen held queue waiting counts reply how (Some answer.OutOfMemory) come come' given r g is still next from t le k = absurd g

-- it was answered, and closes
pub clock_last : (c : Admission) (old : Stand) (clock clock' : ClockTells) (moment : Option ℕ) (request : ConnRequest) (seen : Seen) (held : Option (List ℕ)) (queue : List Stored) (waiting : List ℕ) (counts : Counts) (reply : List ℕ) (how : Counted) (end result : Served) (come come' : Requests)
    → Ticked clock (option_to_list moment) clock' → Replied c old.counts moment request old.seen old.queue reply how seen queue → GivesLast old.held held (old.waiting ++ reply) end result → end_of request ≡ Some end → IsNext request come come'
    → ClockMoves c clock old come clock' (record { seen = seen; held = held; queue = queue; waiting = waiting; counts = counts }) come' (Some result)
clock_last c old clock clock' moment request seen held queue waiting counts reply how end result come come' given r (inl (g, same)) ends next from t le k =
    subst (λ (x : Served). Ends c from (record { seen = seen; source = t.source; clock = clock'; held = held; queue = queue }) x) (sym same) (talk_closed c from (record t { clock = clock }) clock' old seen held queue come come' moment request reply how end le k given next r g ends)
clock_last c old clock clock' moment request seen held queue waiting counts reply how end result come come' given r (inr (g, same)) ends next from t le k =
    subst (λ (x : Served). Ends c from (record { seen = seen; source = t.source; clock = clock'; held = held; queue = queue }) x) (sym same) (talk_unsent c from (record t { clock = clock }) clock' old seen held queue come come' moment request reply how le k given next r g)

-- it was begun, where no reply waits
pub clock_begun : (c : Admission) (old : Stand) (clock clock' : ClockTells) (moment : Option ℕ) (request : ConnRequest) (seen : Seen) (queue : List Stored) (end : Served) (come come' : Requests)
    → Ticked clock (option_to_list moment) clock' → WasBegun c moment request old.seen old.queue seen queue → old.waiting ≡ [] → BreaksSo end → IsNext request come come'
    → ClockMoves c clock old come clock' (record { seen = seen; held = old.held; queue = queue; waiting = old.waiting; counts = old.counts }) come' (Some end)
clock_begun c old clock clock' moment request seen queue end come come' given b none so next from t le k = talk_begun c from (record t { clock = clock }) clock' old seen queue come come' moment request end le k given next b none so

-- the clock failed, which it asks, where no reply waits
pub clock_failed : (c : Admission) (old : Stand) (moments moments' : Option (List ℕ)) (calls calls' : Option ℕ) (request : ConnRequest) (come come' : Requests) → old.waiting ≡ [] → (asks_clock request ≡ true) × (moments' ≡ moments) → IsCalled calls calls' → IsNext request come come'
    → ClockMoves c (record { moments = moments; calls = calls }) old come (record { moments = moments'; calls = calls' }) old come' (Some answer.ClockFault)
clock_failed c old moments moments' calls calls' request come come' none (asks, same) called next from t le k =
    talk_momentless c from (record t { clock = record { moments = moments; calls = calls } }) (record { moments = moments'; calls = calls' }) old come come' request le k next asks same called none

-- a request that is no put asks for no point
pub unasked : (request : Request) → is_put (Telnet request) ≡ false → point_asked request ≡ None
unasked (Put point) e = absurd (true≢false e)
unasked Version e = refl
unasked Help e = refl
unasked Stats e = refl
unasked DropCaches e = refl
unasked Exit e = refl
unasked Die e = refl
unasked TooLong e = refl
unasked Other e = refl

-- ---- one request that doesn't ask the clock

pub request_replied : (c : Admission) (old : Stand) (request : ConnRequest) (seen : Seen) (held : Option (List ℕ)) (queue : List Stored) (waiting : List ℕ) (counts : Counts) (reply : List ℕ) (how : Counted) (result : Option Served) (come come' : Requests)
    → Replied c old.counts None request old.seen old.queue reply how seen queue → GivesReply old.held held (old.waiting ++ reply) waiting result → counts ≡ counts_with old.counts how → end_of request ≡ None → IsNext request come come'
    → Moves c old come (record { seen = seen; held = held; queue = queue; waiting = waiting; counts = counts }) come' result
request_replied c old request seen held queue waiting counts reply how result come come' r g is still next from t le k = clock_replied c old t.clock t.clock None request seen held queue waiting counts reply how result come come' (no_ticks t.clock) r g is still next from t le k

pub request_last : (c : Admission) (old : Stand) (request : ConnRequest) (seen : Seen) (held : Option (List ℕ)) (queue : List Stored) (waiting : List ℕ) (counts : Counts) (reply : List ℕ) (how : Counted) (end result : Served) (come come' : Requests)
    → Replied c old.counts None request old.seen old.queue reply how seen queue → GivesLast old.held held (old.waiting ++ reply) end result → end_of request ≡ Some end → IsNext request come come'
    → Moves c old come (record { seen = seen; held = held; queue = queue; waiting = waiting; counts = counts }) come' (Some result)
request_last c old request seen held queue waiting counts reply how end result come come' r g ends next from t le k = clock_last c old t.clock t.clock None request seen held queue waiting counts reply how end result come come' (no_ticks t.clock) r g ends next from t le k

pub request_begun : (c : Admission) (old : Stand) (request : ConnRequest) (seen : Seen) (queue : List Stored) (end : Served) (come come' : Requests)
    → WasBegun c None request old.seen old.queue seen queue → old.waiting ≡ [] → BreaksSo end → IsNext request come come'
    → Moves c old come (record { seen = seen; held = old.held; queue = queue; waiting = old.waiting; counts = old.counts }) come' (Some end)
request_begun c old request seen queue end come come' b none so next from t le k = clock_begun c old t.clock t.clock None request seen queue end come come' (no_ticks t.clock) b none so next from t le k

-- what waited was given first
pub gave_first : (c : Admission) (old : Stand) (held : Option (List ℕ)) (waiting : List ℕ) (new : Stand) (come come' : Requests) (result : Option Served)
    → Gives old.held held old.waiting [] → waiting ≡ [] → Moves c (record { seen = old.seen; held = held; queue = old.queue; waiting = waiting; counts = old.counts }) come new come' result → Moves c old come new come' result
gave_first c old held waiting new come come' result g none m from t le k =
    m from t le (subst (λ (w : List ℕ). Talks c from t (record { seen = old.seen; held = held; queue = old.queue; waiting = w; counts = old.counts }) come) (sym none) (talk_gave c from t old held come k g))

pub first_failed : (c : Admission) (old : Stand) (held : Option (List ℕ)) (waiting : List ℕ) (come come' : Requests) → GivesSome old.held held old.waiting
    → Moves c old come (record { seen = old.seen; held = held; queue = old.queue; waiting = waiting; counts = old.counts }) come' (Some answer.WriteFault)
first_failed c old held waiting come come' g from t le k = talk_failed c from t old held come le k g

pub clock_gave_first : (c : Admission) (old : Stand) (clock clock' : ClockTells) (held : Option (List ℕ)) (waiting : List ℕ) (new : Stand) (come come' : Requests) (result : Option Served)
    → Gives old.held held old.waiting [] → waiting ≡ [] → ClockMoves c clock (record { seen = old.seen; held = held; queue = old.queue; waiting = waiting; counts = old.counts }) come clock' new come' result → ClockMoves c clock old come clock' new come' result
clock_gave_first c old clock clock' held waiting new come come' result g none m from t le k =
    m from t le (subst (λ (w : List ℕ). Talks c from (record t { clock = clock }) (record { seen = old.seen; held = held; queue = old.queue; waiting = w; counts = old.counts }) come) (sym none) (talk_gave c from (record t { clock = clock }) old held come k g))

pub clock_first_failed : (c : Admission) (old : Stand) (clock : ClockTells) (held : Option (List ℕ)) (waiting : List ℕ) (come come' : Requests) → GivesSome old.held held old.waiting
    → ClockMoves c clock old come clock (record { seen = old.seen; held = held; queue = old.queue; waiting = waiting; counts = old.counts }) come' (Some answer.WriteFault)
clock_first_failed c old clock held waiting come come' g from t le k = talk_failed c from (record t { clock = clock }) old held come le k g

-- one after the other
pub moves_on : (c : Admission) (old mid new : Stand) (come come' come'' : Requests) (result : Option Served) → Moves c old come mid come' None → Moves c mid come' new come'' result → Moves c old come new come'' result
moves_on c old mid new come come' come'' result a b from t le k = b from t le (a from t le k)

-- the same requests are to come, under another name
pub moves_same : (c : Admission) (s : Stand) (come come' : Requests) → ((more : List ℕ) → come' more ≡ come more) → Moves c s come s come' None
moves_same c s come come' same from t le k = talk_come c from t s come come' k same

pub clock_moves_on : (c : Admission) (old mid new : Stand) (clock between clock' : ClockTells) (come come' come'' : Requests) (result : Option Served) → ClockMoves c clock old come between mid come' None → ClockMoves c between mid come' clock' new come'' result → ClockMoves c clock old come clock' new come'' result
clock_moves_on c old mid new clock between clock' come come' come'' result a b from t le k = b from t le (a from t le k)

-- ---- requests that ask for no step

nothing_done : (seen : Seen) (c : Admission) (counts : Counts) (request : Request) (reply : List ℕ) → point_asked request ≡ None → reply ≡ fixed_reply counts request → (queue : List Stored)
    → Replied c counts None (Telnet request) seen queue reply (counted_as (Telnet request) []) seen queue
nothing_done seen c counts request reply none is queue = record {
  stored = [];
  since = (nothing_made seen).since;
  answered = λ h l f. (refl, subst (λ (point : Option DataPoint). AnsweredBy c (first seen.length h) (deeds h seen.caller seen.length seen.length) counts request point reply []) (sym none) ((nothing_made seen).made h f, is, refl));
  rows = rows_none queue;
  how_is = refl;
}

pub fixed_broken : (request : ConnRequest) (held held' : Option (List ℕ)) (waiting waiting' : List ℕ) (counts counts' : Counts) (result : Served) → GivesLast held held' waiting answer.OutOfMemory result
    → FixedMoves request held waiting counts (Some result) held' waiting' counts'
fixed_broken request held held' waiting waiting' counts counts' result g c seen queue come come' next from t le k =
    talk_broken c from t (record { seen = seen; held = held; queue = queue; waiting = waiting; counts = counts }) held' result come le k g

pub fixed_last : (request : Request) (held held' : Option (List ℕ)) (waiting waiting' : List ℕ) (counts counts' : Counts) (reply : List ℕ) (end result : Served) → point_asked request ≡ None → reply ≡ fixed_reply counts request → end_of (Telnet request) ≡ Some end
    → GivesLast held held' (waiting ++ reply) end result → FixedMoves (Telnet request) held waiting counts (Some result) held' waiting' counts'
fixed_last request held held' waiting waiting' counts counts' reply end result none is ends g c seen queue come come' next =
    request_last c (record { seen = seen; held = held; queue = queue; waiting = waiting; counts = counts }) (Telnet request) seen held' queue waiting' counts' reply (counted_as (Telnet request) []) end result come come'
    (nothing_done seen c counts request reply none is queue) g ends next

pub fixed_told : (request : Request) (held held' : Option (List ℕ)) (waiting waiting' : List ℕ) (counts counts' : Counts) (reply : List ℕ) (result : Option Served) → point_asked request ≡ None → reply ≡ fixed_reply counts request → end_of (Telnet request) ≡ None
    → GivesReply held held' (waiting ++ reply) waiting' result → counts' ≡ counts_with counts (counted_as (Telnet request) []) → FixedMoves (Telnet request) held waiting counts result held' waiting' counts'
fixed_told request held held' waiting waiting' counts counts' reply result none is still g more c seen queue come come' next =
    request_replied c (record { seen = seen; held = held; queue = queue; waiting = waiting; counts = counts }) (Telnet request) seen held' queue waiting' counts' reply (counted_as (Telnet request) []) result come come'
    (nothing_done seen c counts request reply none is queue) g more still next
