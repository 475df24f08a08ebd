-- What each lawful history says of names, and of the connections that were served in it.
use Rattle.std.proofs.Common.{◌≡◌, ◌⊎◌, inl, inr, ⊎_elim, ℕ, zero, suc, ◌+◌, ◌≤◌, ◌<◌, Bool, true, false, List, [], ◌∷◌, refl, sym, ap, subst, ◌∙◌, arith, rules}
use Rattle.std.specs.Prelude.{◌≢◌, Contains, Option, None, Some, Result, Ok, Err, nat_eq, nat_le, if◌then◌else◌, option_and_then, option_to_list}
use Rattle.std.specs.Int.{w64, to_be_bytes}
use Rattle.std.proofs.lemmas.List.{append-nil}
use Rattle.std.proofs.lemmas.List.Elements.{Contains-append_left, Contains-append_right}
use Rattle.tsd_base.specs.declared.kinds.Kind.{Kind}
use Rattle.tsd_base.specs.Alphabet.{IsName}
use Rattle.tsd_base.specs.Points.{DataPoint}
use Rattle.list_lemmas.proofs.BoolTests.{nat_eq_is, not_Some}
use Rattle.list_lemmas.proofs.ListMembers.{here, there}
use Rattle.cell_model.specs.declared.answers.Stored.{Stored}
use Rattle.cell_model.specs.declared.events.Entry.{Entry}
use Rattle.cell_model.specs.declared.events.Placed.{Placed}
use Rattle.cell_model.specs.declared.events.Step.{Step}
use Rattle.cell_model.specs.Deeds.{before_first, deeds}
use Rattle.cell_model.specs.History.{History, base_of, len, entry_at, first, store_after, Had}
use Rattle.cell_model.specs.History.History.{Base, Then}
use Rattle.cell_model.specs.IdRows.{id_number, id_of, name_of, name_row}
use Rattle.cell_model.specs.Lawful.{IsLawful}
use Rattle.cell_model.specs.Machine.{kind_qual}
use Rattle.cell_model.specs.Readings.{Reading, OneValued, HasReading, IsPut, Accepted, reading_of}
use Rattle.cell_model.specs.Seen.{Seen, InEach}
use Rattle.cell_model.specs.Store.{Store, value_at}
use Rattle.cell_laws.proofs.CallerLemmas.{Begins, whole, longer, begins_first, cell_by, deeds_each, entry_at-more, first_first, first_lawful, keeps_id, name_keeps, one_name, same_reading, sound_after}
use Rattle.point_put.specs.Admissions.{Admission}
use Rattle.point_put.specs.declared.fault.PutFault.{PutFault}
use Rattle.point_put.specs.declared.fault.PutFault.TheVariants as fault
use Rattle.point_put.specs.PutPoint.{PointAsked}
use Rattle.point_put.proofs.CallerLemmas.{step_puts}
use Rattle.json_reply.specs.Replies.{Group}
use Rattle.query_text.specs.declared.queries.Query.{Query}
use Rattle.query_text.specs.declared.queries.Sub.{Sub}
use Rattle.metric_scan.specs.declared.fault.AskFault.{AskFault}
use Rattle.metric_scan.specs.declared.fault.AskFault.TheVariants.{TooManyBuckets, BadFilter, Unknown, Duplicate, Overflow, OutOfMemory, Stopped}
use Rattle.query_run.specs.Asked.{Answers}
use Rattle.query_run.specs.Asked.Answers.{none, more}
use Rattle.query_run.specs.AskedQueries.{answer_over, barred, names_in, wanted, IsFew, QueryAsked}
use Rattle.query_run.specs.Invisible.{AcceptedFor, IsOneValued}
use Rattle.metric_scan.specs.Parts.{Part, all_own, PartStands}
use Rattle.query_run.proofs.CallerLemmas.{StandIn, no_conflict_of}
use Rattle.http_api.specs.CallWork.{Work}
use Rattle.http_api.specs.HttpAnswers.{Done}
use Rattle.tsd_daemon.specs.declared.counts.Counts.{Counts}
use Rattle.tsd_daemon.specs.declared.served.Served.{Served}
use Rattle.tsd_daemon.specs.declared.served.Served.TheVariants as answer
use Rattle.tsd_daemon.specs.ConnReplies.{IsTold, put_line}
use Rattle.tsd_daemon.specs.ConnRequests.{ConnRequest}
use Rattle.tsd_daemon.specs.ConnRequests.ConnRequest.{Telnet, Http}
use Rattle.tsd_daemon.specs.Exchanges.{Exchange, AnsweredBetween, AnsweredBy, Ran, counts_of, moments_in, requests_in}
use Rattle.tsd_daemon.specs.Exchanges.Ran.{start, then_asked}
use Rattle.tsd_daemon.specs.ServedConns.{AllAnswered, BreaksOff, ConnTold, Passes, ServesBytes, Table}
use Rattle.tsd_daemon.specs.TakenInTurn.{InTurn, TakenInTurn, answers_all}
use Rattle.tsd_daemon.specs.TakenInTurn.InTurn.{none_yet, then_one}
use Rattle.tsd_daemon.specs.Headline.{AnsweredFrom, ArePlain, Headline, IsPlain, RepliedPlainly}
use Rattle.tsd_daemon.specs.Headline.ArePlain.{no_more, and_then}
use Rattle.tsd_daemon.specs.HeadlineLaws.{HasOneIdEach, QueriesArePlain, ServedHasHeadline, StaysAccepted}

-- ---- names

none_some : {X : Type 0} (x : X) → ◌≡◌ {A = Option X} None (Some x) → ⊥
none_some x e = cc

-- the row of the counters, or another one
counters_or : (name : List ℕ) → (name ≡ 0 ∷ []) ⊎ (name ≢ 0 ∷ [])
counters_or [] = inr (λ e. cc)
counters_or (zero ∷ []) = inl refl
counters_or (zero ∷ x ∷ xs) = inr (λ e. cc)
counters_or (suc n ∷ xs) = inr (λ e. cc)

true_false : ◌≡◌ {A = Bool} true false → ⊥
true_false e = cc

-- eight bytes are no id
no_number : (number : ℕ) → id_number (to_be_bytes w64 number) ≡ None
no_number number = refl

-- what is resolved is a name
module _ (h : History) (lawful : IsLawful h) (kind : Kind) (name : List ℕ) (id : ℕ) where
  named_at : (value : Option (List ℕ)) → value_at (store_after h) (name_row name) (kind_qual kind) ≡ value → option_and_then id_number value ≡ Some id → IsName name
  named_at None is e = absurd (not_Some id (sym e))
  named_at (Some value) is e = ⊎_elim
      (λ (zeros : name ≡ 0 ∷ []).
      let counter = (sound_after h lawful).counters (kind_qual kind) value (ap (λ (n : List ℕ). value_at (store_after h) (name_row n) (kind_qual kind)) (sym zeros) ∙ is) in
      absurd (none_some id (sym (no_number counter.number) ∙ ap id_number (sym counter.value_is) ∙ e)))
      (λ (other : name ≢ 0 ∷ []). ((sound_after h lawful).forward name (kind_qual kind) value other is).is_name)
      (counters_or name)

  pub resolved_named : id_of h kind name ≡ Some id → IsName name
  resolved_named is = named_at (value_at (store_after h) (name_row name) (kind_qual kind)) refl is

pub one_id_each : HasOneIdEach
one_id_each h lawful = record {
  keeps = λ kind name id n m le is. keeps_id h n m kind name id lawful (resolved_named (first n h) (first_lawful h n lawful) kind name id is) le is;
  alone = λ kind a b id n m x y.
      let named_a = resolved_named (first n h) (first_lawful h n lawful) kind a id x in
      let named_b = resolved_named (first m h) (first_lawful h m lawful) kind b id y in
      one_name (first (n + m) h) kind a b id (first_lawful h (n + m) lawful) named_a named_b (keeps_id h n (n + m) kind a id lawful named_a (omega arith) x) (keeps_id h m (n + m) kind b id lawful named_b (omega arith) y);
}

-- ---- what was accepted stays accepted

base_stays : {g h : History} → Begins g h → base_of g ≡ base_of h
base_stays whole = refl
base_stays (longer b) = base_stays b

had_stays : {g h : History} (e : Entry) → Begins g h → Had g e → Had h e
had_stays e whole had = had
had_stays e (longer {h = h} {e = last} b) had = let w = had_stays e b had in (w.0, entry_at-more h last e w.0 w.1)

accepted_stays : {g h : History} (r : Reading) → Begins g h → IsLawful h → Accepted g r → Accepted h r
accepted_stays {g} {h} r b lawful (inl based) =
    inl (subst (λ (s : Store). HasReading (name_of h) s r) (base_stays b) (record {
      row = based.row;
      qual = based.qual;
      value = based.value;
      stands = based.stands;
      reads = cell_by based.row based.qual based.value r (λ kind id name is. name_keeps kind id name b lawful is) based.reads;
    }))
accepted_stays {g} {h} r b lawful (inr w) = inr (w.0, had_stays w.0 b w.1, w.2)

pub stays_accepted : StaysAccepted
stays_accepted h n m r lawful le accepted =
    accepted_stays r (subst (λ (x : History). Begins x (first m h)) (first_first n m h le) (begins_first n (first m h))) (first_lawful h m lawful) accepted

-- ---- queries

-- the entries have places between two lengths
abbrev StandWithin : ℕ → ℕ → List Placed → Type 0
StandWithin n n2 own = (p : Placed) → Contains own p → (n < p.place) × (p.place ≤ n2)

module _ (h : History) (n n2 : ℕ) (lawful : IsLawful h) (le : n ≤ n2) (q : Query) where
  begins_within : (own : List Placed) → StandWithin n n2 own → (n ≤ before_first own n2) × (before_first own n2 ≤ n2)
  begins_within [] stand = (le, omega arith)
  begins_within (p ∷ own) stand =
      let low = (stand p (here p own)).0 in
      let high = (stand p (here p own)).1 in
      (omega (arith, low), omega (arith, high))

  -- what a part shows are such points
  part_from : (s : Sub) (part : Part) → StandWithin n n2 part.own → OneValued (AcceptedFor q s (first n2 h)) → PartStands (wanted q s) (names_in s) part n2 h → AnsweredFrom h q s n n2 part.shown
  part_from s part stand one stands = record {
    begun = begun;
    in_between = within;
    accepted = stands.covers.within;
    complete = complete;
    acknowledged = λ r a. complete r (stays_accepted h n begun r lawful within.0 a.0, a.1);
  }
    where
      begun : ℕ
      begun = before_first part.own n2

      within : (n ≤ begun) × (begun ≤ n2)
      within = begins_within part.own stand

      complete : (r : Reading) → AcceptedFor q s (first begun h) r → Contains part.shown r
      complete r a =
          let w = stands.covers.each r a in
          let same = one r w.0 (stays_accepted h begun n2 r lawful within.1 a.0, a.1) (stands.covers.within w.0 w.1) w.2 in
          subst (Contains part.shown) (same_reading r w.0 w.2 same) w.1

  all_plain : {subs : List Sub} {parts : List Part} {groups : List Group} → Answers (wanted q) names_in (barred q) (answer_over q) (IsFew q) n2 h subs parts groups → StandWithin n n2 (all_own parts)
      → ((s : Sub) → Contains subs s → OneValued (AcceptedFor q s (first n2 h))) → ArePlain h q n n2 subs groups
  all_plain none stand one = no_more
  all_plain (more {s = s} {part = part} {groups = groups} {subs = subs} {parts = parts} clear stands is few tail) stand one =
      and_then part.shown (part_from s part (λ p c. stand p (Contains-append_left part.own (all_own parts) p c)) (one s (here s subs)) stands) is
      (all_plain tail (λ p c. stand p (Contains-append_right part.own (all_own parts) p c)) (λ t i. one t (there s t subs i)))

  -- the caller's entries stand there
  deeds_within : (caller : ℕ) (own : List Placed) → deeds h caller n n2 ≡ own → StandWithin n n2 own
  deeds_within caller own is p c = let d = deeds_each h caller n n2 p (subst (λ (l : List Placed). Contains l p) (sym is) c) in (d.above, d.within)

  result_plain : (caller : ℕ) (result : Result (List Group) AskFault) → QueryAsked h caller n q result n2 → IsOneValued q (first n2 h) → IsPlain h q n n2 result
  result_plain caller (Ok groups) a one = all_plain a.answers (deeds_within caller (all_own a.parts) a.made) one
  result_plain caller (Err (Duplicate time a b)) r one =
      no_conflict_of h n2 lawful r.part.own stand q r.sub (store_after (first (before_first r.part.own n2) h)) time a b
      (one r.sub (subst (λ (l : List Sub). Contains l r.sub) (sym r.cut) (Contains-append_right r.done (r.sub ∷ r.rest) r.sub (here r.sub r.rest)))) r.cause.2
    where
      stand : StandIn h n2 r.part.own
      stand p c =
          let d = deeds_each h caller n n2 p (subst (λ (l : List Placed). Contains l p) (sym r.made) (Contains-append_right (all_own r.parts) r.part.own p c)) in (d.within, d.stands)
  result_plain caller (Err (TooManyBuckets count)) r one = tt
  result_plain caller (Err (BadFilter index)) r one = tt
  result_plain caller (Err (Unknown kind name)) r one = tt
  result_plain caller (Err (Overflow time)) r one = tt
  result_plain caller (Err OutOfMemory) r one = tt
  result_plain caller (Err Stopped) r one = tt

pub queries_are_plain : QueriesArePlain
queries_are_plain h caller n n2 q result lawful le asked one = result_plain h n n2 lawful le q caller result asked one

-- ---- requests

-- an entry is among the first ones up to its place
entry_among : (n : ℕ) (h : History) (place : ℕ) (e : Entry) → place ≤ n → entry_at h place ≡ Some e → entry_at (first n h) place ≡ Some e
entry_among n (Base base) place e le is = is
entry_among n (Then h last) place e le is = at (nat_le (len h + 1) n) refl (nat_eq place (len h + 1)) refl is (entry_among n h place e le)
  where
    at : (b : Bool) → nat_le (len h + 1) n ≡ b → (t : Bool) → nat_eq place (len h + 1) ≡ t → (if t then Some last else entry_at h place) ≡ Some e → (entry_at h place ≡ Some e → entry_at (first n h) place ≡ Some e) → entry_at (if b then Then h last else first n h) place ≡ Some e
    at true b t eq is go = ap (λ x. if x then Some last else entry_at h place) eq ∙ is
    at false b true eq is go = let under : n < len h + 1 = search (rules, b) in let same = nat_eq_is _ _ eq in absurd (omega (arith, le, under, same))
    at false b false eq is go = go is

-- a reply that says nothing is no refusal
not_line : (text : List ℕ) → [] ≡ put_line text → ⊥
not_line text e = cc

module _ (c : Admission) (h : History) (caller n n2 : ℕ) where
  -- a point whose put says nothing was put by one of the caller's entries
  put_accepted : (point : DataPoint) (outcome : Result Stored PutFault) (reply : List ℕ) (stored : List Stored) → PointAsked c point (first n2 h) (deeds h caller n n2) outcome → IsTold outcome reply stored → reply ≡ []
      → Accepted (first n2 h) (reading_of point)
  put_accepted point (Ok row) reply stored asked told nothing =
      let put = asked.put in
      let d = deeds_each h caller n n2 put (subst (λ (l : List Placed). Contains l put) (sym asked.list_is) (Contains-append_right asked.names (put ∷ []) put (here put []))) in
      inr (put.entry, (put.place, entry_among n2 h put.place put.entry d.within d.stands), subst (λ (s : Step). IsPut s (reading_of point)) (sym asked.did.did.0) (step_puts c.config.appends point row.row asked.did.qual asked.did.value))
  put_accepted point (Err (fault.Unknown kind name)) reply stored asked told nothing = absurd (not_line _ (sym nothing ∙ told.0))
  put_accepted point (Err (fault.Filtered kind name)) reply stored asked told nothing = absurd (not_line _ (sym nothing ∙ told.0))
  put_accepted point (Err (fault.Exhausted kind)) reply stored asked told nothing = absurd (not_line _ (sym nothing ∙ told.0))
  put_accepted point (Err fault.OutOfMemory) reply stored asked told nothing = absurd told
  put_accepted point (Err fault.Stopped) reply stored asked told nothing = absurd told

  request_plain : (counts : Counts) (moment : Option ℕ) (request : ConnRequest) (reply : List ℕ) (stored : List Stored) → IsLawful h → n ≤ n2 → AnsweredBetween c h caller n n2 counts moment request reply stored
      → RepliedPlainly h n n2 request moment reply
  request_plain counts moment (Telnet request) reply stored lawful le (none_asked, by) = λ point is nothing.
      let w = subst (λ (o : Option DataPoint). AnsweredBy c (first n2 h) (deeds h caller n n2) counts request o reply stored) is by in
      put_accepted point w.0 reply stored w.1 w.2 nothing
  request_plain counts moment (Http call) reply stored lawful le (now, moment_is, answered) = (
    now,
    moment_is,
    λ q is one.
        let done = subst (λ (w : Work). Done c h caller n n2 w answered.tells stored) is answered.done in
        (done.0, queries_are_plain h caller n n2 q done.0 lawful le done.1 one, (answered.tells, done.2, answered.reply_is)),
  )

-- ---- connections

module _ (c : Admission) (h : History) (caller n : ℕ) (lawful : IsLawful h) where
  abbrev Plain : ℕ → ℕ → Exchange → Type 0
  Plain from to x = RepliedPlainly h from to x.request x.moment x.reply

  ran_in_turn : {done : List Exchange} {last : ℕ} → Ran c h caller n done last → InTurn Plain n done last
  ran_in_turn start = none_yet (omega arith)
  ran_in_turn (then_asked {done = done} {e = e} {e2 = e2} x ran le answered) =
      then_one x (ran_in_turn ran) (omega arith) le (omega arith) (request_plain c h caller e e2 (counts_of done) x.moment x.request x.reply x.stored lawful le answered)

  up_to : {done : List Exchange} {last to : ℕ} → last ≤ to → InTurn Plain n done last → InTurn Plain n done to
  up_to le (none_yet first_le) = none_yet (omega (arith, le, first_le))
  up_to le (then_one x before a b last_le plain) = then_one x before a b (omega (arith, le, last_le)) plain

  module _ (last n2 : ℕ) (done : List Exchange) (answered : InTurn Plain n done n2) (input output times : List ℕ) where
    whole_session : (result : Served) (later : List Placed) → AllAnswered done input output times later → TakenInTurn (RepliedPlainly h) n n2 input output times result
    whole_session result later a = record {
      done = done;
      rest = [];
      requests = a.requests ∙ sym (append-nil (requests_in done));
      unsent = [];
      replies = append-nil output ∙ a.replies;
      later = [];
      moments = a.moments ∙ sym (append-nil (moments_in done));
      all = λ is. (refl, refl);
      answered = answered;
    }

    broken_session : (result : Served) → answers_all result ≡ false → BreaksOff c h caller last n2 done input output times → TakenInTurn (RepliedPlainly h) n n2 input output times result
    broken_session result breaks b = record {
      done = done;
      rest = b.rest;
      requests = b.requests;
      unsent = [];
      replies = append-nil output ∙ b.replies;
      later = option_to_list b.moment;
      moments = b.moments;
      all = λ is. absurd (true_false (sym is ∙ breaks));
      answered = answered;
    }

    in_turn : (result : Served) → Table result c h caller last n2 done input output times → TakenInTurn (RepliedPlainly h) n n2 input output times result
    in_turn answer.End t = whole_session answer.End _ t.all
    in_turn answer.ReadFault t = whole_session answer.ReadFault _ t.all
    in_turn answer.SessionFull t = whole_session answer.SessionFull _ t.all
    in_turn answer.Exit t = whole_session answer.Exit _ t.all
    in_turn answer.Die t = whole_session answer.Die _ t.all
    in_turn answer.Closed t = whole_session answer.Closed _ t.all
    in_turn answer.Stopped t = broken_session answer.Stopped refl t
    in_turn answer.OutOfMemory t = broken_session answer.OutOfMemory refl t
    in_turn answer.ClockFault t = record {
      done = done;
      rest = t.request ∷ t.rest;
      requests = t.requests;
      unsent = [];
      replies = append-nil output ∙ t.replies;
      later = [];
      moments = t.moments ∙ sym (append-nil (moments_in done));
      all = λ is. absurd (true_false (sym is));
      answered = answered;
    }
    in_turn answer.WriteFault t = record {
      done = done;
      rest = t.rest;
      requests = t.requests;
      unsent = t.unsent;
      replies = t.replies;
      later = [];
      moments = t.moments ∙ sym (append-nil (moments_in done));
      all = λ is. absurd (true_false (sym is));
      answered = answered;
    }

pub served_headline : ServedHasHeadline
served_headline c h caller n n2 input output times result lawful s = record {
  ids = one_id_each h lawful;
  queries = in_turn c h caller n lawful s.last n2 s.done (up_to c h caller n lawful s.in_range (ran_in_turn c h caller n lawful s.ran)) input output times result s.table;
}

-- ---- what a caller sees

-- it holds of a connection in each history that fits what was seen
pub passes_headline : {before after : ConnTold} (c : Admission) (old : Seen) (result : Served) (new : Seen) → Passes before after (ServesBytes c old result new)
    → Passes before after (λ input output times. InEach new (λ h. Headline h old.length new.length input output times result))
passes_headline c old result new p = record {
  input = p.input;
  output = p.output;
  times = p.times;
  takes = p.takes;
  leaves = p.leaves;
  gives = p.gives;
  ticks = p.ticks;
  so = λ h lawful fits. served_headline c h old.caller old.length new.length p.input p.output p.times result lawful (p.so.0.served h lawful fits);
}
