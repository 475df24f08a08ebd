-- What a request is answered, by the entries that its caller makes for it.
use Rattle.std.specs.Prelude.{◌≡◌, ℕ, ◌-◌, ◌^◌, ◌≤◌, min, ◌⊎◌, Bool, true, false, List, [], ◌∷◌, ◌++◌, length, map, filter, Option, None, Some, option_to_list, Result, if◌then◌else◌}
use Rattle.std.specs.List.{flat_map}
use Rattle.tsd_base.specs.Points.{DataPoint}
use Rattle.cell_model.specs.declared.answers.Stored.{Stored}
use Rattle.cell_model.specs.declared.events.Placed.{Placed}
use Rattle.cell_model.specs.History.{History, first}
use Rattle.cell_model.specs.Deeds.{deeds}
use Rattle.point_put.specs.Admissions.{Admission}
use Rattle.point_put.specs.declared.fault.PutFault.{PutFault}
use Rattle.point_put.specs.PutPoint.{PointAsked}
use Rattle.telnet_put.specs.Requests.{Request}
use Rattle.telnet_put.specs.Requests.Request.{Put}
use Rattle.http_api.specs.HttpAnswers.{CallAnswered, CallBegun}
use Rattle.tsd_daemon.specs.declared.counts.Counts.{Counts}
use Rattle.http_requests.specs.declared.http_call.Call.{Call}
use Rattle.tsd_daemon.specs.ConnRequests.{ConnRequest, asks_clock, point_asked}
use Rattle.tsd_daemon.specs.ConnRequests.ConnRequest.{Telnet, Http}
use Rattle.tsd_daemon.specs.ConnReplies.{IsTold, fixed_reply}

-- a request, the moment that the clock gave for it, where it asks the clock, the bytes of its reply, and the rows of the points that were accepted for it, in
-- their order
pub record Exchange : Type 0 where
  pub request : ConnRequest
  pub moment : Option ℕ
  pub reply : List ℕ
  pub stored : List Stored

abbrev pub requests_in : List Exchange → List ConnRequest
requests_in done = map (λ (x : Exchange). x.request) done

abbrev pub replies_in : List Exchange → List ℕ
replies_in done = flat_map (λ (x : Exchange). x.reply) done

abbrev pub moments_in : List Exchange → List ℕ
moments_in done = flat_map (λ (x : Exchange). option_to_list x.moment) done

abbrev pub rows_in : List Exchange → List Stored
rows_in done = flat_map (λ (x : Exchange). x.stored) done

-- a put of a telnet session, also one whose words are no point
abbrev pub is_put : ConnRequest → Bool
is_put (Telnet (Put point)) = true
is_put _ = false

-- of a put: some row was stored, or none
abbrev pub is_accepted : Bool → List Stored → Bool
is_accepted true (row ∷ rows) = true
is_accepted true [] = false
is_accepted false rows = false

abbrev pub is_refused : Bool → List Stored → Bool
is_refused true (row ∷ rows) = false
is_refused true [] = true
is_refused false rows = false

-- a number that stands still at the last u64
abbrev pub counted : ℕ → ℕ
counted number = min number (2 ^ 64 - 1)

-- how many requests there were, how many puts were accepted, and how many were refused
abbrev pub counts_of : List Exchange → Counts
counts_of done = record {
  requests = counted (length done);
  puts = counted (length (filter (λ (x : Exchange). is_accepted (is_put x.request) x.stored) done));
  refused = counted (length (filter (λ (x : Exchange). is_refused (is_put x.request) x.stored) done));
}

-- A request of a telnet session was answered by these entries of its caller, where the history is as long as the caller has seen it at its end, and the
-- counts are those of the requests before it. A point is asked, and what is told of it is the reply. Any other request makes no entry.
abbrev pub AnsweredBy : Admission → History → List Placed → Counts → Request → Option DataPoint → List ℕ → List Stored → Type 0
AnsweredBy c h own counts request (Some point) reply stored = (outcome : Result Stored PutFault) × PointAsked c point h own outcome × IsTold outcome reply stored
AnsweredBy c h own counts request None reply stored = (own ≡ []) × (reply ≡ fixed_reply counts request) × (stored ≡ [])

-- what the clock gave for a call that is worked at this moment: the moment where the call asks it, else nothing
abbrev pub moment_by : Bool → ℕ → Option ℕ
moment_by asks now = if asks then Some now else None

abbrev pub moment_for : Call → ℕ → Option ℕ
moment_for call now = moment_by (asks_clock (Http call)) now

-- A request was answered between two lengths of the history with this reply, and these rows are to be queued, where the counts are those of the requests before
-- it and the clock gave this moment for it. A telnet session's request never asks the clock.
abbrev pub AnsweredBetween : Admission → History → ℕ → ℕ → ℕ → Counts → Option ℕ → ConnRequest → List ℕ → List Stored → Type 0
AnsweredBetween c h caller n n2 counts moment (Telnet request) reply stored = (moment ≡ None) × AnsweredBy c (first n2 h) (deeds h caller n n2) counts request (point_asked request) reply stored
AnsweredBetween c h caller n n2 counts moment (Http call) reply stored = (now : ℕ) × (moment ≡ moment_for call now) × CallAnswered c h caller n n2 now call reply stored

-- a request of a telnet session was begun: a point was asked, whatever came of it
abbrev pub BegunBy : Admission → History → List Placed → Option DataPoint → Type 0
BegunBy c h own (Some point) = (outcome : Result Stored PutFault) × PointAsked c point h own outcome
BegunBy c h own None = own ≡ []

-- A request was begun between two lengths of the history, and the clock gave this moment for it. A call may have been given up before the clock was asked.
abbrev pub BegunBetween : Admission → History → ℕ → ℕ → ℕ → Option ℕ → ConnRequest → Type 0
BegunBetween c h caller n n2 moment (Telnet request) = (moment ≡ None) × BegunBy c (first n2 h) (deeds h caller n n2) (point_asked request)
BegunBetween c h caller n n2 moment (Http call) =
    ((moment ≡ None) × (deeds h caller n n2 ≡ [])) ⊎ ((now : ℕ) × (moment ≡ moment_for call now) × CallBegun c h caller n n2 now call)

-- requests were answered one after the other, from one length on to another
pub data Ran (c : Admission) (h : History) (caller n : ℕ) : List Exchange → ℕ → Type 0 where
  start : Ran c h caller n [] n
  then_asked : {done : List Exchange} {e e2 : ℕ} (x : Exchange) → Ran c h caller n done e → e ≤ e2 → AnsweredBetween c h caller e e2 (counts_of done) x.moment x.request x.reply x.stored → Ran c h caller n (done ++ x ∷ []) e2
