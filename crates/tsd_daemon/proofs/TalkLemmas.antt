-- Exchanges that were done, and one more.
use Rattle.std.proofs.Common.{◌≡◌, ℕ, ◌+◌, ◌^◌, ◌≤◌, Bool, true, false, ◌||◌, List, [], ◌∷◌, ◌++◌, length, refl, sym, ap, subst, ◌∙◌, append_assoc, append-nil, arith}
use Rattle.std.specs.Prelude.{Option, None, Some, option_to_list, filter, if◌then◌else◌}
use Rattle.std.specs.List.{list_any}
use Rattle.list_lemmas.proofs.ListCuts.{filter_join}
use Rattle.list_lemmas.proofs.ListParts.{length_push}
use Rattle.list_lemmas.proofs.BoolTests.{not_Some, same_Some}
use Rattle.cell_model.specs.declared.answers.Stored.{Stored}
use Rattle.cell_model.specs.declared.events.Placed.{Placed}
use Rattle.cell_model.specs.History.{History}
use Rattle.cell_model.specs.Deeds.{deeds}
use Rattle.compactor.specs.Queues.{HasRows}
use Rattle.point_put.specs.Admissions.{Admission}
use Rattle.queued_put.specs.PutRows.{MayHaveRows}
use Rattle.telnet_put.specs.Requests.Request.{Put, Version, Help, Stats, DropCaches, Exit, Die, TooLong, Other}
use Rattle.http_requests.specs.declared.http_call.Call.{Call}
use Rattle.tsd_daemon.specs.declared.counts.Counts.{Counts}
use Rattle.tsd_daemon.specs.declared.served.Served.{Served}
use Rattle.tsd_daemon.specs.declared.served.Served.TheVariants as answer
use Rattle.tsd_daemon.specs.ConnClocks.{CalledForEach, CalledOnce}
use Rattle.tsd_daemon.specs.ConnRequests.{ConnRequest, closes_conn, end_of}
use Rattle.tsd_daemon.specs.ConnRequests.ConnRequest.{Telnet, Http}
use Rattle.tsd_daemon.specs.ConnReplies.{counts_with, one_more}
use Rattle.tsd_daemon.specs.Exchanges.{Exchange, counted, counts_of, is_accepted, is_put, is_refused, moments_in, replies_in, requests_in, rows_in}
use Rattle.tsd_daemon.specs.ServedConns.{BreaksOff, Closes, Fills, QueueTable, Table}
use Rattle.tsd_daemon.specs.Talks.{counted_if}

-- ---- lists of exchanges

pub replies_push : (done : List Exchange) (x : Exchange) → replies_in (done ++ x ∷ []) ≡ replies_in done ++ x.reply
replies_push [] x = append-nil x.reply
replies_push (y ∷ done) x = ap (λ t. y.reply ++ t) (replies_push done x) ∙ sym (append_assoc y.reply (replies_in done) x.reply)

pub rows_push : (done : List Exchange) (x : Exchange) → rows_in (done ++ x ∷ []) ≡ rows_in done ++ x.stored
rows_push [] x = append-nil x.stored
rows_push (y ∷ done) x = ap (λ t. y.stored ++ t) (rows_push done x) ∙ sym (append_assoc y.stored (rows_in done) x.stored)

pub moments_push : (done : List Exchange) (x : Exchange) → moments_in (done ++ x ∷ []) ≡ moments_in done ++ option_to_list x.moment
moments_push [] x = append-nil (option_to_list x.moment)
moments_push (y ∷ done) x = ap (λ t. option_to_list y.moment ++ t) (moments_push done x) ∙ sym (append_assoc (option_to_list y.moment) (moments_in done) (option_to_list x.moment))

pub requests_push : (done : List Exchange) (x : Exchange) → requests_in (done ++ x ∷ []) ≡ requests_in done ++ x.request ∷ []
requests_push [] x = refl
requests_push (y ∷ done) x = ap (λ t. y.request ∷ t) (requests_push done x)

-- the requests after one more
pub requests_next : (done : List Exchange) (x : Exchange) (all come come' : List ConnRequest) → all ≡ requests_in done ++ come → come ≡ x.request ∷ come' → all ≡ requests_in (done ++ x ∷ []) ++ come'
requests_next done x all come come' is next =
    is ∙ ap (λ t. requests_in done ++ t) next ∙ sym (append_assoc (requests_in done) (x.request ∷ []) come') ∙ ap (λ t. t ++ come') (sym (requests_push done x))

any_push : (requests : List ConnRequest) (r : ConnRequest) → list_any closes_conn requests ≡ false → closes_conn r ≡ false → list_any closes_conn (requests ++ r ∷ []) ≡ false
any_push [] r none last = ap (λ t. t || false) last
any_push (x ∷ requests) r none last = at (closes_conn x) refl none (any_push requests r)
  where
    at : (t : Bool) → closes_conn x ≡ t → t || list_any closes_conn requests ≡ false → (list_any closes_conn requests ≡ false → closes_conn r ≡ false → list_any closes_conn (requests ++ r ∷ []) ≡ false) → closes_conn x || list_any closes_conn (requests ++ r ∷ []) ≡ false
    at true e n go = absurd (grind (arith, n))
    at false e n go = ap (λ t. t || list_any closes_conn (requests ++ r ∷ [])) e ∙ go n last

pub open_push : (done : List Exchange) (x : Exchange) → list_any closes_conn (requests_in done) ≡ false → closes_conn x.request ≡ false → list_any closes_conn (requests_in (done ++ x ∷ [])) ≡ false
open_push done x none last = ap (list_any closes_conn) (requests_push done x) ∙ any_push (requests_in done) x.request none last

-- ---- counts

count_push : (p : Exchange → Bool) (done : List Exchange) (x : Exchange) (b : Bool) → p x ≡ b → length (filter p (done ++ x ∷ [])) ≡ length (filter p done) + (if b then 1 else 0)
count_push p done x b e = ap length (filter_join p done (x ∷ [])) ∙ at b e
  where
    at : (t : Bool) → p x ≡ t → length (filter p done ++ filter p (x ∷ [])) ≡ length (filter p done) + (if t then 1 else 0)
    at true e = ap (λ (t : Bool). length (filter p done ++ (if t then x ∷ [] else []))) e ∙ length_push (filter p done) x
    at false e = ap (λ (t : Bool). length (filter p done ++ (if t then x ∷ [] else []))) e ∙ ap length (append-nil (filter p done)) ∙ omega arith

counted_more : (n m : ℕ) → m ≡ n + 1 → counted m ≡ one_more (counted n)
counted_more n m e = omega (arith, e)

counted_same : (n m : ℕ) → m ≡ n + 0 → counted m ≡ counted n
counted_same n m e = ap counted (e ∙ omega arith)

same_counts : (a b d a' b' d' : ℕ) → a ≡ a' → b ≡ b' → d ≡ d' → ◌≡◌ {A = Counts} (record { requests = a; puts = b; refused = d }) (record { requests = a'; puts = b'; refused = d' })
same_counts a b d a' b' d' p q r = cc

pub counts_push : (done : List Exchange) (x : Exchange) → counts_of (done ++ x ∷ []) ≡ counts_with (counts_of done) (counted_if (is_put x.request) x.stored)
counts_push done x = at (is_put x.request) x.stored (count_push accepted done x) (count_push refused done x)
  where
    accepted : Exchange → Bool
    accepted y = is_accepted (is_put y.request) y.stored

    refused : Exchange → Bool
    refused y = is_refused (is_put y.request) y.stored

    all : counted (length (done ++ x ∷ [])) ≡ one_more (counted (length done))
    all = counted_more (length done) (length (done ++ x ∷ [])) (length_push done x)

    at : (put : Bool) (stored : List Stored) → ((b : Bool) → is_accepted put stored ≡ b → length (filter accepted (done ++ x ∷ [])) ≡ length (filter accepted done) + (if b then 1 else 0))
        → ((b : Bool) → is_refused put stored ≡ b → length (filter refused (done ++ x ∷ [])) ≡ length (filter refused done) + (if b then 1 else 0))
        → counts_of (done ++ x ∷ []) ≡ counts_with (counts_of done) (counted_if put stored)
    at true (row ∷ rows) a r = same_counts _ _ _ _ _ _ all (counted_more _ _ (a true refl)) (counted_same _ _ (r false refl))
    at true [] a r = same_counts _ _ _ _ _ _ all (counted_same _ _ (a false refl)) (counted_more _ _ (r true refl))
    at false stored a r = same_counts _ _ _ _ _ _ all (counted_same _ _ (a false refl)) (counted_same _ _ (r false refl))

-- ---- requests that end a connection

pub record ClosesSo (request : ConnRequest) (end : Served) : Type 0 where
  pub table : (c : Admission) (h : History) (caller n n2 : ℕ) (done : List Exchange) (input output times : List ℕ) → Closes end done input output times (deeds h caller n n2) → Table end c h caller n n2 done input output times
  pub queue : (before rows : List Stored) (later : List Placed) (after : List Stored) → HasRows before rows after → QueueTable end before rows later after
  pub fills : (count : ℕ) → count ≤ 2 ^ 40 → Fills end count
  pub called : (calls : Option ℕ) (times : List ℕ) (after : Option ℕ) → CalledForEach calls times after → CalledOnce end calls times after
  pub closes : closes_conn request ≡ true

exits : ClosesSo (Telnet Exit) answer.Exit
exits = record { table = λ c h caller n n2 done input output times t. t; queue = λ before rows later after q. q; fills = λ count le. le; called = λ calls times after once. once; closes = refl }

dies : ClosesSo (Telnet Die) answer.Die
dies = record { table = λ c h caller n n2 done input output times t. t; queue = λ before rows later after q. q; fills = λ count le. le; called = λ calls times after once. once; closes = refl }

call_closes : (call : Call) → call.closing ≡ true → ClosesSo (Http call) answer.Closed
call_closes call is = record { table = λ c h caller n n2 done input output times t. t; queue = λ before rows later after q. q; fills = λ count le. le; called = λ calls times after once. once; closes = is }

pub closes_so : (request : ConnRequest) (end : Served) → end_of request ≡ Some end → ClosesSo request end
closes_so (Telnet Exit) end e = subst (λ r. ClosesSo (Telnet Exit) r) (same_Some _ _ e) exits
closes_so (Telnet Die) end e = subst (λ r. ClosesSo (Telnet Die) r) (same_Some _ _ e) dies
closes_so (Telnet (Put p)) end e = absurd (not_Some end (sym e))
closes_so (Telnet Version) end e = absurd (not_Some end (sym e))
closes_so (Telnet Help) end e = absurd (not_Some end (sym e))
closes_so (Telnet Stats) end e = absurd (not_Some end (sym e))
closes_so (Telnet DropCaches) end e = absurd (not_Some end (sym e))
closes_so (Telnet TooLong) end e = absurd (not_Some end (sym e))
closes_so (Telnet Other) end e = absurd (not_Some end (sym e))
closes_so (Http call) end e = at call.closing refl e
  where
    at : (t : Bool) → call.closing ≡ t → (if t then Some answer.Closed else None) ≡ Some end → ClosesSo (Http call) end
    at true is e = subst (λ r. ClosesSo (Http call) r) (same_Some _ _ e) (call_closes call is)
    at false is e = absurd (not_Some end (sym e))

pub goes_on : (request : ConnRequest) → end_of request ≡ None → closes_conn request ≡ false
goes_on (Telnet Exit) e = absurd (not_Some _ e)
goes_on (Telnet Die) e = absurd (not_Some _ e)
goes_on (Telnet (Put p)) e = refl
goes_on (Telnet Version) e = refl
goes_on (Telnet Help) e = refl
goes_on (Telnet Stats) e = refl
goes_on (Telnet DropCaches) e = refl
goes_on (Telnet TooLong) e = refl
goes_on (Telnet Other) e = refl
goes_on (Http call) e = at call.closing e
  where
    at : (t : Bool) → (if t then Some answer.Closed else None) ≡ None → t ≡ false
    at true e = absurd (not_Some _ e)
    at false e = refl

-- ---- answers behind which a request may have been begun

pub record BreaksSo (end : Served) : Type 0 where
  pub table : (c : Admission) (h : History) (caller n n2 : ℕ) (done : List Exchange) (input output times : List ℕ) → BreaksOff c h caller n n2 done input output times → Table end c h caller n n2 done input output times
  pub queue : (before rows : List Stored) (later : List Placed) (after : List Stored) → MayHaveRows before rows later after → QueueTable end before rows later after
  pub fills : (count : ℕ) → count ≤ 2 ^ 40 → Fills end count
  pub called : (calls : Option ℕ) (times : List ℕ) (after : Option ℕ) → CalledForEach calls times after → CalledOnce end calls times after

pub memory_breaks : BreaksSo answer.OutOfMemory
memory_breaks = record { table = λ c h caller n n2 done input output times t. t; queue = λ before rows later after q. q; fills = λ count le. le; called = λ calls times after once. once }

pub stop_breaks : BreaksSo answer.Stopped
stop_breaks = record { table = λ c h caller n n2 done input output times t. t; queue = λ before rows later after q. q; fills = λ count le. le; called = λ calls times after once. once }
