-- Calls of an HTTP connection: those that are to come, and what one is answered.
use Rattle.std.proofs.Common.{◌≡◌, inr, ℕ, Bool, true, false, List, [], ◌++◌, map, refl, ap, ◌∙◌}
use Rattle.std.specs.Prelude.{None, Some, if◌then◌else◌}
use Rattle.cell_model.specs.declared.answers.Stored.{Stored}
use Rattle.cell_model.specs.Seen.{Seen}
use Rattle.point_put.specs.Admissions.{Admission}
use Rattle.http_requests.specs.declared.http_call.Call.{Call}
use Rattle.http_requests.specs.HttpSessions as sessions
use Rattle.http_requests.specs.HttpUnread.{Unread}
use Rattle.http_api.specs.HttpAnswers.{CallBroken, CallReplied}
use Rattle.tsd_daemon.specs.declared.counts.Counts.{Counts}
use Rattle.tsd_daemon.specs.declared.counts.Counted.TheVariants as counted
use Rattle.tsd_daemon.specs.declared.served.Served.TheVariants as answer
use Rattle.tsd_daemon.specs.ConnRequests.{end_of}
use Rattle.tsd_daemon.specs.ConnRequests.ConnRequest.{Http}
use Rattle.tsd_daemon.specs.Exchanges.{moment_for}
use Rattle.tsd_daemon.specs.Talks.{IsNext, Replied, WasBegun, http_to_come}

pub next_call : (old new : Unread) (call : Call) → sessions.Gives old call new → IsNext (Http call) (http_to_come old) (http_to_come new)
next_call old new call g = record { next = λ more. ap (map Http) (g.next more); last = λ closes more. ap (map Http) (g.last closes more) }

pub same_calls : (old new : Unread) → sessions.ComesAs old new → (more : List ℕ) → http_to_come new more ≡ http_to_come old more
same_calls old new same more = ap (map Http) (same more)

pub no_calls : (old new : Unread) → sessions.Waits old new → http_to_come new [] ≡ []
no_calls old new w = ap (map Http) (w.same [] ∙ w.none)

pub fed_calls : (old new : Unread) (piece fed : List ℕ) → piece ≡ fed → ((more : List ℕ) → sessions.to_come new more ≡ sessions.to_come old (piece ++ more)) → (more : List ℕ) → http_to_come new more ≡ http_to_come old (fed ++ more)
fed_calls old new piece fed is same more = ap (map Http) (same more ∙ ap (λ (p : List ℕ). sessions.to_come old (p ++ more)) is)

pub call_replied : (c : Admission) (counts : Counts) (now : ℕ) (call : Call) (old new : Seen) (before after : List Stored) (reply : List ℕ) → CallReplied c now call old before reply new after
    → Replied c counts (moment_for call now) (Http call) old before reply counted.Other new after
call_replied c counts now call old new before after reply r = record { stored = r.stored; since = r.since; answered = λ h l f. (now, refl, r.answered h l f); rows = r.rows; how_is = refl }

pub call_begun : (c : Admission) (now : ℕ) (call : Call) (old new : Seen) (before after : List Stored) → CallBroken c now call old before new after → WasBegun c (moment_for call now) (Http call) old before new after
call_begun c now call old new before after b = record { since = b.since; begun = λ h l f. inr (now, refl, b.begun h l f); rows = b.rows }

-- whether the connection ends with it
pub closes_with : (call : Call) → call.closing ≡ true → end_of (Http call) ≡ Some answer.Closed
closes_with call is = ap (λ (t : Bool). if t then Some answer.Closed else None) is

pub stays_open : (call : Call) → call.closing ≡ false → end_of (Http call) ≡ None
stays_open call is = ap (λ (t : Bool). if t then Some answer.Closed else None) is
