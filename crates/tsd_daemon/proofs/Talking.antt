-- How a connection goes on by one request, by bytes that are given and by bytes that are taken, and how it ends.
use Rattle.std.proofs.Common.{◌≡◌, inl, inr, ℕ, ◌+◌, ◌^◌, ◌≤◌, ◌<◌, true, List, [], ◌∷◌, ◌++◌, length, length-append, refl, sym, ap, subst, ◌∙◌, append_assoc, append-nil, arith}
use Rattle.std.specs.Prelude.{Option, None, Some, option_to_list, Err}
use Rattle.std.specs.Io.KnownBytes.{Appends, Consumes}
use Rattle.std.proofs.KnownBytes.{Appends-nil, Appends-trans, Consumes-nil, Consumes-trans}
use Rattle.tsd_base.specs.Points.{DataPoint}
use Rattle.cell_laws.proofs.CallerLemmas.{nothing_made, since_joined}
use Rattle.cell_model.specs.declared.answers.Stored.{Stored}
use Rattle.cell_model.specs.declared.events.Placed.{Placed}
use Rattle.cell_model.specs.History.{History, first}
use Rattle.cell_model.specs.Layout.{names_of}
use Rattle.cell_model.specs.Seen.{Seen, InEach}
use Rattle.cell_model.specs.Deeds.{deeds, Since}
use Rattle.compactor.specs.Queues.{HasRows}
use Rattle.compactor.proofs.CallerLemmas.{rows_joined, rows_none}
use Rattle.point_put.specs.Admissions.{Admission}
use Rattle.point_put.specs.declared.fault.PutFault.TheVariants as put_fault
use Rattle.point_put.proofs.CallerLemmas.{none_in_turn}
use Rattle.queued_put.specs.PutRows.{MayHaveRows}
use Rattle.queued_put.proofs.CallerLemmas.{may_follow, may_have}
use Rattle.tsd_daemon.specs.declared.served.Served.{Served}
use Rattle.tsd_daemon.specs.declared.served.Served.TheVariants as answer
use Rattle.tsd_daemon.specs.declared.counts.Counts.{Counts}
use Rattle.tsd_daemon.specs.declared.counts.Counted.{Counted}
use Rattle.tsd_io.specs.Ticks.{IsCalled}
use Rattle.tsd_daemon.specs.ConnClocks.{CalledOnce, ClockTells, Gave, Ticked}
use Rattle.tsd_daemon.specs.ConnPieces.{IsLast, SourceTells, longest_piece}
use Rattle.tsd_daemon.specs.ConnRequests.{ConnRequest, asks_clock, conn_requests, end_of, point_asked}
use Rattle.tsd_daemon.specs.ConnRequests.ConnRequest.{Telnet, Http}
use Rattle.tsd_daemon.specs.ConnReplies.{counts_with, no_counts}
use Rattle.tsd_daemon.specs.LastPieces.{LastTake}
use Rattle.tsd_daemon.specs.Exchanges.{AnsweredBetween, BegunBetween, BegunBy, Exchange, Ran, counts_of, moments_in, requests_in, rows_in}
use Rattle.tsd_daemon.specs.Exchanges.Ran.{start, then_asked}
use Rattle.tsd_daemon.specs.ServedConns.{AllAnswered, Fills, FirstBegun, QueueTable, Table}
use Rattle.tsd_daemon.specs.Talks.{ConnState, Ends, Gives, GivesLast, GivesSome, IsNext, Replied, Stand, Taken, Talks, Told, WasBegun, state_at}
use Rattle.tsd_daemon.proofs.GivenMoments.{no_ticks, ticks_joined}
use Rattle.tsd_daemon.proofs.LastTaken.{more_given, no_take_yet, none_taken_since, one_answered, piece_taken}
use Rattle.tsd_daemon.proofs.TalkLemmas.{BreaksSo, closes_so, counts_push, goes_on, moments_push, open_push, replies_push, requests_next, requests_push, rows_push}

abbrev pub Requests : Type 0
Requests = List ℕ → List ConnRequest

abbrev exchange : Option ℕ → ConnRequest → List ℕ → List Stored → Exchange
exchange moment request reply stored = record { request = request; moment = moment; reply = reply; stored = stored }

-- ---- one request more

ran_more : (c : Admission) (from mid new : Seen) (done : List Exchange) (counts : Counts) (moment : Option ℕ) (request : ConnRequest) (before : List Stored) (reply : List ℕ) (how : Counted) (after : List Stored)
    → mid.caller ≡ from.caller → counts ≡ counts_of done → InEach mid (λ h. Ran c h from.caller from.length done mid.length)
    → (r : Replied c counts moment request mid before reply how new after) → InEach new (λ h. Ran c h from.caller from.length (done ++ exchange moment request reply r.stored ∷ []) new.length)
ran_more c from mid new done counts moment request before reply how after who is ran r h l f =
    let mine : AnsweredBetween c h from.caller mid.length new.length counts moment request reply r.stored = subst (λ (n : ℕ). AnsweredBetween c h n mid.length new.length counts moment request reply r.stored) who (r.answered h l f) in
    then_asked (exchange moment request reply r.stored) (ran h l (r.since.extends.fits h f)) r.since.extends.length (subst (λ (k : Counts). AnsweredBetween c h from.caller mid.length new.length k moment request reply r.stored) is mine)

-- its reply waits
told_answered : (c : Admission) (from : ConnState) (t : Taken) (clock : ClockTells) (done : List Exchange) (old : Stand) (seen : Seen) (queue : List Stored) (come come' : Requests) (moment : Option ℕ) (request : ConnRequest) (reply : List ℕ) (how : Counted)
    → Told c from t done old come → Ticked t.clock (option_to_list moment) clock → IsNext request come come' → (r : Replied c old.counts moment request old.seen old.queue reply how seen queue)
    → Told c from (record t { clock = clock }) (done ++ exchange moment request reply r.stored ∷ []) (record { seen = seen; held = old.held; queue = queue; waiting = old.waiting ++ reply; counts = counts_with old.counts how }) come'
told_answered c from t clock done old seen queue come come' moment request reply how k given next r =
    let x = exchange moment request reply r.stored in
    record {
      input = k.input;
      output = k.output;
      takes = k.takes;
      leaves = k.leaves;
      gives = k.gives;
      ticks = subst (λ (times : List ℕ). Ticked from.clock times clock) (sym (moments_push done x)) (ticks_joined from.clock t.clock clock (moments_in done) (option_to_list moment) k.ticks given);
      size = k.size;
      since = since_joined from.seen old.seen seen k.since r.since;
      ran = ran_more c from.seen old.seen seen done old.counts moment request old.queue reply how queue k.since.caller k.counted k.ran r;
      replies = sym (append_assoc k.output old.waiting reply) ∙ ap (λ w. w ++ reply) k.replies ∙ sym (replies_push done x);
      requests = λ more. requests_next done x _ (come more) (come' more) (k.requests more) (next.next more);
      queued = subst (λ (rows : List Stored). HasRows from.queue rows queue) (sym (rows_push done x)) (rows_joined from.queue old.queue queue (rows_in done) r.stored k.queued r.rows);
      counted = ap (λ (n : Counts). counts_with n how) k.counted ∙ ap (λ h. counts_with (counts_of done) h) r.how_is ∙ sym (counts_push done x);
      pieces = one_answered from.source.last t.source.last done x k.input k.output k.pieces;
    }

-- ---- bytes that are given

told_gave : (c : Admission) (from : ConnState) (t : Taken) (done : List Exchange) (old : Stand) (held : Option (List ℕ)) (waiting : List ℕ) (come : Requests) → Told c from t done old come → Gives old.held held old.waiting waiting
    → Told c from t done (record { seen = old.seen; held = held; queue = old.queue; waiting = waiting; counts = old.counts }) come
told_gave c from t done old held waiting come k g = record {
  input = k.input;
  output = k.output ++ g.given;
  takes = k.takes;
  leaves = k.leaves;
  gives = Appends-trans from.held old.held held k.output g.given k.gives g.appends;
  ticks = k.ticks;
  size = k.size;
  since = k.since;
  ran = k.ran;
  replies = append_assoc k.output g.given waiting ∙ ap (λ t. k.output ++ t) g.split ∙ k.replies;
  requests = k.requests;
  queued = k.queued;
  counted = k.counted;
  pieces = more_given from.source.last t.source.last done k.input k.output g.given k.pieces;
}

-- what waited was given
pub talk_gave : (c : Admission) (from : ConnState) (t : Taken) (old : Stand) (held : Option (List ℕ)) (come : Requests) → Talks c from t old come → Gives old.held held old.waiting []
    → Talks c from t (record { seen = old.seen; held = held; queue = old.queue; waiting = []; counts = old.counts }) come
talk_gave c from t old held come k g = record { done = k.done; told = told_gave c from t k.done old held [] come k.told g; open_still = k.open_still }

pub talk_replied : (c : Admission) (from : ConnState) (t : Taken) (clock : ClockTells) (old : Stand) (seen : Seen) (held : Option (List ℕ)) (queue : List Stored) (waiting : List ℕ) (come come' : Requests) (moment : Option ℕ) (request : ConnRequest) (reply : List ℕ) (how : Counted)
    → Talks c from t old come → Ticked t.clock (option_to_list moment) clock → IsNext request come come' → Replied c old.counts moment request old.seen old.queue reply how seen queue → Gives old.held held (old.waiting ++ reply) waiting → end_of request ≡ None
    → Talks c from (record t { clock = clock }) (record { seen = seen; held = held; queue = queue; waiting = waiting; counts = counts_with old.counts how }) come'
talk_replied c from t clock old seen held queue waiting come come' moment request reply how k given next r g still = record {
  done = k.done ++ exchange moment request reply r.stored ∷ [];
  told = told_gave c from (record t { clock = clock }) _ _ held waiting come' (told_answered c from t clock k.done old seen queue come come' moment request reply how k.told given next r) g;
  open_still = open_push k.done (exchange moment request reply r.stored) k.open_still (goes_on request still);
}

-- ---- ends

-- the requests of what was taken, where no more comes
all_of : (input : List ℕ) (asked come : List ConnRequest) → conn_requests (input ++ []) ≡ asked ++ come → conn_requests input ≡ asked ++ come
all_of input asked come is = ap conn_requests (sym (append-nil input)) ∙ is

only_of : (input : List ℕ) (asked come : List ConnRequest) → conn_requests (input ++ []) ≡ asked ++ come → come ≡ [] → conn_requests input ≡ asked
only_of input asked come is none = all_of input asked come is ∙ ap (λ t. asked ++ t) none ∙ append-nil asked

most_of : (n size : ℕ) → n ≡ size → size ≤ 2 ^ 40 → n ≤ 2 ^ 40
most_of n size is le = omega (arith, is, le)

-- after these exchanges the connection ended so
told_ends : (c : Admission) (from : ConnState) (t : Taken) (clock : ClockTells) (done : List Exchange) (now : Stand) (come : Requests) (result : Served) (seen : Seen) (queue : List Stored) (times : List ℕ) → (k : Told c from t done now come) → Since now.seen seen
    → Gave from.clock.moments times clock.moments → CalledOnce result from.clock.calls times clock.calls → InEach seen (λ h. Table result c h from.seen.caller now.seen.length seen.length done k.input k.output times)
    → InEach seen (λ h. QueueTable result from.queue (rows_in done) (deeds h from.seen.caller now.seen.length seen.length) queue) → Fills result (length k.input) → Ends c from (record { seen = seen; source = t.source; clock = clock; held = now.held; queue = queue }) result
told_ends c from t clock done now come result seen queue times k since ticks called table queued fills = record {
  input = k.input;
  output = k.output;
  times = times;
  takes = k.takes;
  leaves = k.leaves;
  gives = k.gives;
  ticks = ticks;
  called = called;
  since = since_joined from.seen now.seen seen k.since since;
  served = λ h l f. record {
    served = record { done = done; last = now.seen.length; in_range = since.extends.length; ran = k.ran h l (since.extends.fits h f); table = table h l f; pieces = k.pieces.taken };
    queued = queued h l f;
  };
  pieces = λ h l f. k.pieces;
  fills = fills;
}

-- and no entry was made behind them
told_rests : (c : Admission) (from : ConnState) (t : Taken) (clock : ClockTells) (done : List Exchange) (now : Stand) (come : Requests) (result : Served) → (k : Told c from t done now come)
    → Gave from.clock.moments (moments_in done) clock.moments → CalledOnce result from.clock.calls (moments_in done) clock.calls
    → ((h : History) → deeds h from.seen.caller now.seen.length now.seen.length ≡ [] → Table result c h from.seen.caller now.seen.length now.seen.length done k.input k.output (moments_in done))
    → ((later : List Placed) → QueueTable result from.queue (rows_in done) later now.queue) → Fills result (length k.input) → Ends c from (record { seen = now.seen; source = t.source; clock = clock; held = now.held; queue = now.queue }) result
told_rests c from t clock done now come result k ticks called table queued fills =
    told_ends c from t clock done now come result now.seen now.queue (moments_in done) k (nothing_made now.seen).since ticks called
    (λ h l f. table h (ap (λ n. deeds h n now.seen.length now.seen.length) (sym k.since.caller) ∙ (nothing_made now.seen).made h f)) (λ h l f. queued _) fills

-- the sink failed while what waited was given
told_unsent : (c : Admission) (from : ConnState) (t : Taken) (done : List Exchange) (old : Stand) (held : Option (List ℕ)) (come : Requests) → t.size ≤ 2 ^ 40 → Told c from t done old come → GivesSome old.held held old.waiting
    → Ends c from (record { seen = old.seen; source = t.source; clock = t.clock; held = held; queue = old.queue }) answer.WriteFault
told_unsent c from t done old held come le k (rest, g) =
    let m = told_gave c from t done old held rest come k g in
    told_rests c from t t.clock done _ come answer.WriteFault m m.ticks.gave m.ticks.called (λ h none. record { rest = come []; requests = all_of m.input _ (come []) (m.requests []); unsent = rest; replies = m.replies; moments = refl; no_later = none })
    (λ later. m.queued) (most_of (length m.input) t.size m.size le)

pub talk_failed : (c : Admission) (from : ConnState) (t : Taken) (old : Stand) (held : Option (List ℕ)) (come : Requests) → t.size ≤ 2 ^ 40 → Talks c from t old come → GivesSome old.held held old.waiting
    → Ends c from (record { seen = old.seen; source = t.source; clock = t.clock; held = held; queue = old.queue }) answer.WriteFault
talk_failed c from t old held come le k g = told_unsent c from t k.done old held come le k.told g

-- the reply to a request that was answered couldn't be given whole
pub talk_unsent : (c : Admission) (from : ConnState) (t : Taken) (clock : ClockTells) (old : Stand) (seen : Seen) (held : Option (List ℕ)) (queue : List Stored) (come come' : Requests) (moment : Option ℕ) (request : ConnRequest) (reply : List ℕ) (how : Counted)
    → t.size ≤ 2 ^ 40 → Talks c from t old come → Ticked t.clock (option_to_list moment) clock → IsNext request come come' → Replied c old.counts moment request old.seen old.queue reply how seen queue → GivesSome old.held held (old.waiting ++ reply)
    → Ends c from (record { seen = seen; source = t.source; clock = clock; held = held; queue = queue }) answer.WriteFault
talk_unsent c from t clock old seen held queue come come' moment request reply how le k given next r g =
    told_unsent c from (record t { clock = clock }) _ _ held come' le (told_answered c from t clock k.done old seen queue come come' moment request reply how k.told given next r) g

-- a request that closes was answered, and all replies were given
pub talk_closed : (c : Admission) (from : ConnState) (t : Taken) (clock : ClockTells) (old : Stand) (seen : Seen) (held : Option (List ℕ)) (queue : List Stored) (come come' : Requests) (moment : Option ℕ) (request : ConnRequest) (reply : List ℕ) (how : Counted) (end : Served)
    → t.size ≤ 2 ^ 40 → Talks c from t old come → Ticked t.clock (option_to_list moment) clock → IsNext request come come' → Replied c old.counts moment request old.seen old.queue reply how seen queue → Gives old.held held (old.waiting ++ reply) [] → end_of request ≡ Some end
    → Ends c from (record { seen = seen; source = t.source; clock = clock; held = held; queue = queue }) end
talk_closed c from t clock old seen held queue come come' moment request reply how end le k given next r g ends =
    let so = closes_so request end ends in
    let t' : Taken = record t { clock = clock } in
    let m = told_gave c from t' _ _ held [] come' (told_answered c from t clock k.done old seen queue come come' moment request reply how k.told given next r) g in
    told_rests c from t' clock _ _ come' end m m.ticks.gave (so.called _ _ _ m.ticks.called) (λ h none. so.table c h from.seen.caller seen.length seen.length _ m.input m.output (moments_in (k.done ++ exchange moment request reply r.stored ∷ [])) (record {
      all = record { requests = only_of m.input _ (come' []) (m.requests []) (next.last so.closes []); replies = sym (append-nil m.output) ∙ m.replies; moments = refl; no_later = none };
      before = requests_in k.done;
      last = request;
      ends = requests_push k.done (exchange moment request reply r.stored);
      with_it = ends;
    })) (λ later. so.queue from.queue _ later queue m.queued) (so.fills (length m.input) (most_of (length m.input) t.size m.size le))

-- no reply waits
all_given : (output waiting replies : List ℕ) → output ++ waiting ≡ replies → waiting ≡ [] → output ≡ replies
all_given output waiting replies is none = sym (append-nil output) ∙ ap (λ t. output ++ t) (sym none) ∙ is

-- the requests that are to come, where no more bytes do
next_of_all : (input : List ℕ) (done : List Exchange) (request : ConnRequest) (come come' : Requests) → ((more : List ℕ) → conn_requests (input ++ more) ≡ requests_in done ++ come more) → IsNext request come come'
    → conn_requests input ≡ requests_in done ++ request ∷ come' []
next_of_all input done request come come' requests next = all_of input _ (request ∷ come' []) (requests [] ∙ ap (λ t. requests_in done ++ t) (next.next []))

-- a request was begun and isn't answered, where no reply waits
pub talk_begun : (c : Admission) (from : ConnState) (t : Taken) (clock : ClockTells) (old : Stand) (seen : Seen) (queue : List Stored) (come come' : Requests) (moment : Option ℕ) (request : ConnRequest) (end : Served)
    → t.size ≤ 2 ^ 40 → Talks c from t old come → Ticked t.clock (option_to_list moment) clock → IsNext request come come' → WasBegun c moment request old.seen old.queue seen queue → old.waiting ≡ [] → BreaksSo end
    → Ends c from (record { seen = seen; source = t.source; clock = clock; held = old.held; queue = queue }) end
talk_begun c from t clock old seen queue come come' moment request end le k given next b none so =
    let ticks = ticks_joined from.clock t.clock clock (moments_in k.done) (option_to_list moment) k.told.ticks given in
    told_ends c from t clock k.done old come end seen queue (moments_in k.done ++ option_to_list moment) k.told b.since ticks.gave (so.called _ _ _ ticks.called)
    (λ h l f. so.table c h from.seen.caller old.seen.length seen.length k.done k.told.input k.told.output (moments_in k.done ++ option_to_list moment) (record {
      rest = request ∷ come' [];
      requests = next_of_all k.told.input k.done request come come' k.told.requests next;
      replies = all_given k.told.output old.waiting _ k.told.replies none;
      moment = moment;
      moments = refl;
      begun = subst (λ (n : ℕ). BegunBetween c h n old.seen.length seen.length moment request) k.told.since.caller (b.begun h l f);
    }))
    (λ h l f. so.queue from.queue (rows_in k.done) _ queue (may_follow from.queue old.queue queue (rows_in k.done) _ k.told.queued
    (subst (λ (n : ℕ). MayHaveRows old.queue [] (deeds h n old.seen.length seen.length) queue) k.told.since.caller (b.rows h l f))))
    (so.fills (length k.told.input) (most_of (length k.told.input) t.size k.told.size le))

-- the clock failed, which the next request asks, where no reply waits
pub talk_momentless : (c : Admission) (from : ConnState) (t : Taken) (clock : ClockTells) (old : Stand) (come come' : Requests) (request : ConnRequest) → t.size ≤ 2 ^ 40 → Talks c from t old come → IsNext request come come' → asks_clock request ≡ true
    → clock.moments ≡ t.clock.moments → IsCalled t.clock.calls clock.calls → old.waiting ≡ [] → Ends c from (record { seen = old.seen; source = t.source; clock = clock; held = old.held; queue = old.queue }) answer.ClockFault
talk_momentless c from t clock old come come' request le k next asks same called none =
    told_rests c from t clock k.done old come answer.ClockFault k.told (subst (λ (m : Option (List ℕ)). Gave from.clock.moments (moments_in k.done) m) (sym same) k.told.ticks.gave) (t.clock.calls, k.told.ticks.called, called) (λ h nothing. record {
      request = request;
      rest = come' [];
      requests = next_of_all k.told.input k.done request come come' k.told.requests next;
      asks = asks;
      replies = all_given k.told.output old.waiting _ k.told.replies none;
      moments = refl;
      no_later = nothing;
    }) (λ later. k.told.queued) (most_of (length k.told.input) t.size k.told.size le)

-- ---- ends between two requests

-- no entry and no moment is a request's that was begun
nothing_begun : (c : Admission) (h : History) (caller n : ℕ) (rest : List ConnRequest) → deeds h caller n n ≡ [] → FirstBegun c h caller n n None rest
nothing_begun c h caller n [] none = (refl, none)
nothing_begun c h caller n (Http call ∷ rest) none = inl (refl, none)
nothing_begun c h caller n (Telnet request ∷ rest) none = (refl, subst (λ (own : List Placed). BegunBy c (first n h) own (point_asked request)) (sym none) (at (point_asked request)))
  where
    at : (point : Option DataPoint) → BegunBy c (first n h) [] point
    at None = refl
    at (Some point) = (Err put_fault.OutOfMemory, none_in_turn c (first n h) (names_of point))

-- there was no memory, where no reply waits
pub talk_memory : (c : Admission) (from : ConnState) (t : Taken) (old : Stand) (come : Requests) → t.size ≤ 2 ^ 40 → Talks c from t old come → old.waiting ≡ []
    → Ends c from (state_at t old) answer.OutOfMemory
talk_memory c from t old come le k none =
    told_rests c from t t.clock k.done old come answer.OutOfMemory k.told k.told.ticks.gave k.told.ticks.called
    (λ h nothing. record { rest = come []; requests = all_of k.told.input _ (come []) (k.told.requests []); replies = all_given k.told.output old.waiting _ k.told.replies none; moment = None; moments = sym (append-nil (moments_in k.done)); begun = nothing_begun c h from.seen.caller old.seen.length (come []) nothing })
    (λ later. may_have from.queue (rows_in k.done) old.queue later k.told.queued) (most_of (length k.told.input) t.size k.told.size le)

-- what waited was given, and there was no memory; or the sink failed
pub talk_broken : (c : Admission) (from : ConnState) (t : Taken) (old : Stand) (held : Option (List ℕ)) (result : Served) (come : Requests) → t.size ≤ 2 ^ 40 → Talks c from t old come → GivesLast old.held held old.waiting answer.OutOfMemory result
    → Ends c from (record { seen = old.seen; source = t.source; clock = t.clock; held = held; queue = old.queue }) result
talk_broken c from t old held result come le k (inl (g, is)) = subst (λ (r : Served). Ends c from (record { seen = old.seen; source = t.source; clock = t.clock; held = held; queue = old.queue }) r) (sym is) (talk_memory c from t _ come le (talk_gave c from t old held come k g) refl)
talk_broken c from t old held result come le k (inr (g, is)) = subst (λ (r : Served). Ends c from (record { seen = old.seen; source = t.source; clock = t.clock; held = held; queue = old.queue }) r) (sym is) (talk_failed c from t old held come le k g)

-- where no reply waits and no request is left in what was taken
pub record Quiet (c : Admission) (from : ConnState) (t : Taken) (old : Stand) : Type 0 where
  pub end : t.size < 2 ^ 40 → Ends c from (state_at t old) answer.End
  pub failed : t.size < 2 ^ 40 → Ends c from (state_at t old) answer.ReadFault
  pub full : t.size ≡ 2 ^ 40 → Ends c from (state_at t old) answer.SessionFull

pub talk_quiet : (c : Admission) (from : ConnState) (t : Taken) (old : Stand) (come : Requests) → Talks c from t old come → old.waiting ≡ [] → come [] ≡ [] → Quiet c from t old
talk_quiet c from t old come k quiet none =
    let is = k.told.size in
    record {
      end = λ lt. told_rests c from t t.clock k.done old come answer.End k.told k.told.ticks.gave k.told.ticks.called (λ h nothing. record { all = all h nothing; open_still = k.open_still }) (λ later. k.told.queued) (omega (arith, is, lt));
      failed = λ lt. told_rests c from t t.clock k.done old come answer.ReadFault k.told k.told.ticks.gave k.told.ticks.called (λ h nothing. record { all = all h nothing; open_still = k.open_still }) (λ later. k.told.queued) (omega (arith, is, lt));
      full = λ eq. told_rests c from t t.clock k.done old come answer.SessionFull k.told k.told.ticks.gave k.told.ticks.called (λ h nothing. record { all = all h nothing; open_still = k.open_still }) (λ later. k.told.queued) (is ∙ eq);
    }
  where
    all : (h : History) → deeds h from.seen.caller old.seen.length old.seen.length ≡ [] → AllAnswered k.done k.told.input k.told.output (moments_in k.done) (deeds h from.seen.caller old.seen.length old.seen.length)
    all h nothing = record {
      requests = only_of k.told.input (requests_in k.done) (come []) (k.told.requests []) none;
      replies = all_given k.told.output old.waiting _ k.told.replies quiet;
      moments = refl;
      no_later = nothing;
    }

-- ---- bytes that are taken

told_took : (c : Admission) (from : ConnState) (t : Taken) (source : SourceTells) (size : ℕ) (done : List Exchange) (now : Stand) (come : Requests) (piece : List ℕ) → (k : Told c from t done now come)
    → Appends t.source.taken source.taken piece → Consumes t.source.left source.left piece → size ≡ t.size + length piece → LastTake from.source.last source.last done (k.input ++ piece) k.output
    → Told c from (record { source = source; clock = t.clock; size = size }) done now (λ more. come (piece ++ more))
told_took c from t source size done now come piece k takes leaves grows pieces = record {
  input = k.input ++ piece;
  output = k.output;
  takes = Appends-trans from.source.taken t.source.taken source.taken k.input piece k.takes takes;
  leaves = Consumes-trans from.source.left t.source.left source.left k.input piece k.leaves leaves;
  gives = k.gives;
  ticks = k.ticks;
  size = length-append k.input piece ∙ ap (λ n. n + length piece) k.size ∙ sym grows;
  since = k.since;
  ran = k.ran;
  replies = k.replies;
  requests = λ more. ap conn_requests (append_assoc k.input piece more) ∙ k.requests (piece ++ more);
  queued = k.queued;
  counted = k.counted;
  pieces = pieces;
}

-- where no reply waits and no request is left in what was taken
pub talk_took : (c : Admission) (from : ConnState) (t : Taken) (source : SourceTells) (size : ℕ) (now : Stand) (come : Requests) (piece : List ℕ) → Talks c from t now come → now.waiting ≡ [] → come [] ≡ []
    → Appends t.source.taken source.taken piece → Consumes t.source.left source.left piece → size ≡ t.size + length piece → length piece ≤ longest_piece → IsLast source.last piece
    → Talks c from (record { source = source; clock = t.clock; size = size }) now (λ more. come (piece ++ more))
talk_took c from t source size now come piece k quiet none takes leaves grows within is =
    let pieces = piece_taken from.source.last source.last k.done k.told.input k.told.output piece (only_of k.told.input (requests_in k.done) (come []) (k.told.requests []) none) k.open_still (all_given k.told.output now.waiting _ k.told.replies quiet) within is in
    record { done = k.done; told = told_took c from t source size k.done now come piece k.told takes leaves grows pieces; open_still = k.open_still }

-- where no take was made
pub talk_still : (c : Admission) (from : ConnState) (t : Taken) (source : SourceTells) (size : ℕ) (now : Stand) (come : Requests) (piece : List ℕ) → Talks c from t now come → piece ≡ []
    → Appends t.source.taken source.taken piece → Consumes t.source.left source.left piece → size ≡ t.size + length piece → source.last ≡ t.source.last
    → Talks c from (record { source = source; clock = t.clock; size = size }) now (λ more. come (piece ++ more))
talk_still c from t source size now come piece k none takes leaves grows same =
    let pieces = none_taken_since from.source.last t.source.last source.last k.done k.told.input k.told.output piece none same k.told.pieces in
    record { done = k.done; told = told_took c from t source size k.done now come piece k.told takes leaves grows pieces; open_still = k.open_still }

-- the same requests are to come
told_come : (c : Admission) (from : ConnState) (t : Taken) (done : List Exchange) (now : Stand) (come come' : Requests) → Told c from t done now come → ((more : List ℕ) → come' more ≡ come more) → Told c from t done now come'
told_come c from t done now come come' k same = record {
  input = k.input;
  output = k.output;
  takes = k.takes;
  leaves = k.leaves;
  gives = k.gives;
  ticks = k.ticks;
  size = k.size;
  since = k.since;
  ran = k.ran;
  replies = k.replies;
  requests = λ more. k.requests more ∙ ap (λ r. requests_in done ++ r) (sym (same more));
  queued = k.queued;
  counted = k.counted;
  pieces = k.pieces;
}

pub talk_come : (c : Admission) (from : ConnState) (t : Taken) (now : Stand) (come come' : Requests) → Talks c from t now come → ((more : List ℕ) → come' more ≡ come more) → Talks c from t now come'
talk_come c from t now come come' k same = record { done = k.done; told = told_come c from t k.done now come come' k.told same; open_still = k.open_still }

-- nothing was taken yet
pub talk_start : (c : Admission) (from : ConnState) → Talks c from (record { source = from.source; clock = from.clock; size = 0 }) (record { seen = from.seen; held = from.held; queue = from.queue; waiting = []; counts = no_counts }) conn_requests
talk_start c from = record {
  done = [];
  told = record {
    input = [];
    output = [];
    takes = Appends-nil from.source.taken;
    leaves = Consumes-nil from.source.left;
    gives = Appends-nil from.held;
    ticks = no_ticks from.clock;
    size = refl;
    since = (nothing_made from.seen).since;
    ran = λ h l f. start;
    replies = refl;
    requests = λ more. refl;
    queued = rows_none from.queue;
    counted = refl;
    pieces = no_take_yet from.source.last;
  };
  open_still = refl;
}
