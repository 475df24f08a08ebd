-- The first request of bytes, whatever more comes.
use Rattle.std.proofs.Common.{◌≡◌, ℕ, zero, suc, ◌+◌, ◌<◌, ◌≤◌, Bool, true, false, cond, List, [], ◌∷◌, ◌++◌, length, take, drop, refl, sym, ap, subst, ◌∙◌, arith, append_assoc, append-nil, Option, Some, None, Result, Ok, Err}
use Rattle.std.specs.Prelude.{nat_le}
use Rattle.std.proofs.lemmas.Option.{none-some, same_Some}
use Rattle.httparse.specs.Grammar.{RequestHead}
use Rattle.std.proofs.lemmas.List.{length-append, length-drop, take-append-le, drop-append-le, drop-drop}
use Rattle.http_requests.specs.declared.http_call.TheConstants.{LONGEST_BODY, LONGEST_HEAD}
use Rattle.http_requests.specs.declared.http_call.Refusal.{Refusal}
use Rattle.http_requests.specs.declared.http_call.Refusal.TheVariants.{HeadTooLarge}
use Rattle.http_requests.specs.declared.http_head.Plan.{Plan}
use Rattle.http_requests.specs.declared.http_call.Call.{Call}
use Rattle.http_requests.specs.declared.request_stream.Waiting.{Waiting}
use Rattle.http_requests.specs.HeadEnds.{head_end}
use Rattle.http_requests.specs.HeadReader.{head_of}
use Rattle.http_requests.specs.HttpHeads.{asked_of}
use Rattle.http_requests.specs.HttpUnread.{Unread}
use Rattle.http_requests.specs.HttpSessions.{to_come, Turns}
use Rattle.http_requests.specs.HttpRequests.{Taken, refused, call_of, by_body, by_asked, by_end, first_of, and_then, requests_by, requests_of}
use Rattle.http_requests.specs.AwaitedBodies.{IsWaiting, IsRefused, Knows, TakesBody}
use Rattle.http_requests.specs.HeadEnds.{IsSearched}
use Rattle.http_requests.proofs.EndLemmas.{Late, head_late, head_positive, searched_more}
use Rattle.http_requests.proofs.HeadLemmas.{plan_fits}

le_true : (m n : ℕ) → m ≤ n → nat_le m n ≡ true
le_true m n h = grind (arith, h)

le_is : (m n : ℕ) → nat_le m n ≡ true → m ≤ n
le_is m n h = grind (arith, h)

le_false : (m n : ℕ) → n < m → nat_le m n ≡ false
le_false m n h = grind (arith, h)

pub first_by : (bytes : List ℕ) (o : Option ℕ) → head_end bytes ≡ o → first_of bytes ≡ by_end bytes o
unfolding first_of
first_by bytes o e = ap (by_end bytes) e

-- ---- heads

-- a head that ends here and fits
pub head_here : (bytes : List ℕ) (n : ℕ) (more : List ℕ) → n ≤ length bytes → n ≤ LONGEST_HEAD → head_end (bytes ++ more) ≡ Some n → first_of (bytes ++ more) ≡ by_asked (asked_of (head_of (take n bytes))) (drop n bytes ++ more)
head_here bytes n more le fits e =
    first_by (bytes ++ more) (Some n) e
    ∙ ap (λ t. cond t (by_asked (asked_of (head_of (take n (bytes ++ more)))) (drop n (bytes ++ more))) (Some (refused HeadTooLarge, drop LONGEST_HEAD (bytes ++ more)))) (le_true n LONGEST_HEAD fits)
    ∙ (λ i. by_asked (asked_of (head_of (take-append-le n bytes more le i))) (drop-append-le n bytes more le i))

pub plan_here : (bytes : List ℕ) (n : ℕ) (plan : Plan) → n ≤ length bytes → n ≤ LONGEST_HEAD → ((more : List ℕ) → head_end (bytes ++ more) ≡ Some n) → Ok plan ≡ asked_of (head_of (take n bytes)) → IsWaiting bytes (record { plan = plan; from = n })
plan_here bytes n plan le fits ends asked = record {
  within = le;
  same = λ more. head_here bytes n more le fits (ends more) ∙ ap (λ a. by_asked a (drop n bytes ++ more)) (sym asked);
}

pub refused_here : (bytes : List ℕ) (n : ℕ) (refusal : Refusal) → n ≤ length bytes → n ≤ LONGEST_HEAD → ((more : List ℕ) → head_end (bytes ++ more) ≡ Some n) → Err refusal ≡ asked_of (head_of (take n bytes)) → IsRefused bytes refusal
refused_here bytes n refusal le fits ends asked more = (drop n bytes ++ more, head_here bytes n more le fits (ends more) ∙ ap (λ a. by_asked a (drop n bytes ++ more)) (sym asked))

-- a head that ends too late
late_here : (bytes : List ℕ) (n : ℕ) → LONGEST_HEAD < n → head_end bytes ≡ Some n → first_of bytes ≡ Some (refused HeadTooLarge, drop LONGEST_HEAD bytes)
late_here bytes n lt e =
    first_by bytes (Some n) e
    ∙ ap (λ t. cond t (by_asked (asked_of (head_of (take n bytes))) (drop n bytes)) (Some (refused HeadTooLarge, drop LONGEST_HEAD bytes))) (le_false n LONGEST_HEAD lt)

pub too_late : (bytes : List ℕ) (n : ℕ) → LONGEST_HEAD < n → ((more : List ℕ) → head_end (bytes ++ more) ≡ Some n) → IsRefused bytes HeadTooLarge
too_late bytes n lt ends more = (drop LONGEST_HEAD (bytes ++ more), late_here (bytes ++ more) n lt (ends more))

-- so many bytes without an end
pub too_many : (bytes : List ℕ) → LONGEST_HEAD ≤ length bytes → head_end bytes ≡ None → IsRefused bytes HeadTooLarge
too_many bytes le none more = (drop LONGEST_HEAD (bytes ++ more), by (head_end (bytes ++ more)) refl (head_late bytes more none))
  where
    by : (o : Option ℕ) → head_end (bytes ++ more) ≡ o → Late (length bytes) o → first_of (bytes ++ more) ≡ Some (refused HeadTooLarge, drop LONGEST_HEAD (bytes ++ more))
    by None e late =
        first_by (bytes ++ more) None e
        ∙ ap (λ t. cond t (Some (refused HeadTooLarge, drop LONGEST_HEAD (bytes ++ more))) None) (le_true LONGEST_HEAD (length (bytes ++ more)) (let l = length-append bytes more in omega (arith, le, l)))
    by (Some n) e late = late_here (bytes ++ more) n (omega (arith, late, le)) e

pub not_yet : (bytes : List ℕ) → length bytes < LONGEST_HEAD → head_end bytes ≡ None → first_of bytes ≡ None
not_yet bytes lt none = first_by bytes None none ∙ ap (λ t. cond t (Some (refused HeadTooLarge, drop LONGEST_HEAD bytes)) None) (le_false LONGEST_HEAD (length bytes) lt)

-- ---- bodies

pub body_missing : (bytes : List ℕ) (waiting : Waiting) → IsWaiting bytes waiting → length (drop waiting.from bytes) < waiting.plan.len → first_of bytes ≡ None
body_missing bytes waiting w lt =
    ap first_of (sym (append-nil bytes)) ∙ w.same [] ∙ ap (by_body waiting.plan) (append-nil (drop waiting.from bytes))
    ∙ ap (λ t. cond t (Some (call_of waiting.plan (take waiting.plan.len (drop waiting.from bytes)), drop waiting.plan.len (drop waiting.from bytes))) None) (le_false waiting.plan.len (length (drop waiting.from bytes)) lt)

pub body_taken : (bytes body : List ℕ) (waiting : Waiting) → IsWaiting bytes waiting → waiting.plan.len ≤ length (drop waiting.from bytes) → body ≡ take waiting.plan.len (drop waiting.from bytes) → TakesBody bytes waiting (Some body)
body_taken bytes body waiting w le is = (
  (let d = length-drop waiting.from bytes in let f = w.within in omega (arith, le, d, f)),
  λ more.
      let rest = drop waiting.from bytes in
      let long : waiting.plan.len ≤ length (rest ++ more) = (let l = length-append rest more in omega (arith, le, l)) in
      w.same more
      ∙ ap (λ t. cond t (Some (call_of waiting.plan (take waiting.plan.len (rest ++ more)), drop waiting.plan.len (rest ++ more))) None) (le_true waiting.plan.len (length (rest ++ more)) long)
      ∙ (λ i. Some (call_of waiting.plan (take-append-le waiting.plan.len rest more le i), drop-append-le waiting.plan.len rest more le i))
      ∙ (λ i. Some (call_of waiting.plan (sym is i), drop-drop waiting.plan.len waiting.from bytes i ++ more)),
)

pub waiting_more : (bytes piece : List ℕ) (waiting : Waiting) → IsWaiting bytes waiting → IsWaiting (bytes ++ piece) waiting
waiting_more bytes piece waiting w = record {
  within = (let l = length-append bytes piece in let f = w.within in omega (arith, l, f));
  same = λ more. ap first_of (append_assoc bytes piece more) ∙ w.same (piece ++ more)
      ∙ ap (by_body waiting.plan) (sym (append_assoc (drop waiting.from bytes) piece more) ∙ ap (λ (xs : List ℕ). xs ++ more) (sym (drop-append-le waiting.from bytes piece w.within)));
}

pub knows_more : (bytes piece : List ℕ) (o : Option Waiting) → Knows bytes o → Knows (bytes ++ piece) o
knows_more bytes piece None k = tt
knows_more bytes piece (Some waiting) k = waiting_more bytes piece waiting k

-- ---- all requests

some_taken : (c d : Call) (r s : List ℕ) → ◌≡◌ {A = Taken} (Some (c, r)) (Some (d, s)) → (c ≡ d) × (r ≡ s)
some_taken c d r s e = let p : ◌≡◌ {A = Call × List ℕ} (c, r) (d, s) = same_Some _ _ e in (λ i. (p i).0, λ i. (p i).1)

shorter : (bytes rest : List ℕ) (n : ℕ) → 1 ≤ n → 1 ≤ length bytes → rest ≡ drop n bytes → length rest < length bytes
shorter bytes rest n some long e = let l = ap length e in let d = length-drop n bytes in omega (arith, l, d, some, long)

asked_shorter : (a : Result Plan Refusal) (bytes : List ℕ) (n : ℕ) (c : Call) (rest : List ℕ) → 1 ≤ n → 1 ≤ length bytes → by_asked a (drop n bytes) ≡ Some (c, rest) → length rest < length bytes
asked_shorter (Err refusal) bytes n c rest some long e = shorter bytes rest n some long (sym (some_taken (refused refusal) c (drop n bytes) rest e).1)
asked_shorter (Ok p) bytes n c rest some long e = by (nat_le p.len (length (drop n bytes))) e
  where
    by : (t : Bool) → cond {A = Taken} t (Some (call_of p (take p.len (drop n bytes)), drop p.len (drop n bytes))) None ≡ Some (c, rest) → length rest < length bytes
    by true got = shorter bytes rest (n + p.len) (omega (arith, some)) long (sym (some_taken (call_of p (take p.len (drop n bytes))) c (drop p.len (drop n bytes)) rest got).1 ∙ drop-drop p.len n bytes)
    by false got = absurd (none-some _ got)

pub request_shorter : (bytes : List ℕ) (c : Call) (rest : List ℕ) → first_of bytes ≡ Some (c, rest) → length rest < length bytes
request_shorter bytes c rest e = by (head_end bytes) refl
  where
    far : (t : Bool) → nat_le LONGEST_HEAD (length bytes) ≡ t → cond {A = Taken} t (Some (refused HeadTooLarge, drop LONGEST_HEAD bytes)) None ≡ Some (c, rest) → length rest < length bytes
    far true is got = shorter bytes rest LONGEST_HEAD (omega arith) (let l = le_is LONGEST_HEAD (length bytes) is in omega (arith, l)) (sym (some_taken (refused HeadTooLarge) c (drop LONGEST_HEAD bytes) rest got).1)
    far false is got = absurd (none-some _ got)

    near : (n : ℕ) (t : Bool) → 1 ≤ n → 1 ≤ length bytes → cond {A = Taken} t (by_asked (asked_of (head_of (take n bytes))) (drop n bytes)) (Some (refused HeadTooLarge, drop LONGEST_HEAD bytes)) ≡ Some (c, rest) → length rest < length bytes
    near n true some long got = asked_shorter (asked_of (head_of (take n bytes))) bytes n c rest some long got
    near n false some long got = shorter bytes rest LONGEST_HEAD (omega arith) long (sym (some_taken (refused HeadTooLarge) c (drop LONGEST_HEAD bytes) rest got).1)

    by : (o : Option ℕ) → head_end bytes ≡ o → length rest < length bytes
    by None is = far (nat_le LONGEST_HEAD (length bytes)) refl (sym (first_by bytes None is) ∙ e)
    by (Some n) is = let p = head_positive bytes n is in near n (nat_le n LONGEST_HEAD) p.0 p.1 (sym (first_by bytes (Some n) is) ∙ e)

step_at : (k : ℕ) (bytes : List ℕ) → requests_by (suc k) bytes ≡ and_then (first_of bytes) (requests_by k)
unfolding requests_by
step_at k bytes = refl

zero_at : (bytes : List ℕ) → requests_by zero bytes ≡ []
unfolding requests_by
zero_at bytes = refl

first_nil : first_of [] ≡ None
first_nil = by (head_end []) refl
  where
    by : (o : Option ℕ) → head_end [] ≡ o → first_of [] ≡ None
    by None is = first_by [] None is
    by (Some n) is = let p = head_positive [] n is in absurd (let q = p.1 in omega (arith, q))

and_then_same : (o : Taken) (f g : List ℕ → List Call) → ((c : Call) (rest : List ℕ) → o ≡ Some (c, rest) → f rest ≡ g rest) → and_then o f ≡ and_then o g
and_then_same None f g same = refl
and_then_same (Some t) f g same = ap (λ (xs : List Call). t.0 ∷ cond t.0.closing [] xs) (same t.0 t.1 refl)

nil_by : (k : ℕ) → requests_by k [] ≡ []
nil_by zero = zero_at []
nil_by (suc k) = step_at k [] ∙ ap (λ o. and_then o (requests_by k)) first_nil

-- any number that suffices gives the same
enough : (n j k : ℕ) (bytes : List ℕ) → length bytes ≤ n → length bytes ≤ j → length bytes ≤ k → requests_by j bytes ≡ requests_by k bytes
enough n j k [] a b c = nil_by j ∙ sym (nil_by k)
enough zero j k (x ∷ bytes) a b c = absurd (omega (arith, a))
enough (suc n) zero k (x ∷ bytes) a b c = absurd (omega (arith, b))
enough (suc n) (suc j) zero (x ∷ bytes) a b c = absurd (omega (arith, c))
enough (suc n) (suc j) (suc k) (x ∷ bytes) a b c =
    step_at j (x ∷ bytes)
    ∙ and_then_same (first_of (x ∷ bytes)) (requests_by j) (requests_by k)
    (λ call rest is. let s = request_shorter (x ∷ bytes) call rest is in enough n j k rest (omega (arith, s, a)) (omega (arith, s, b)) (omega (arith, s, c)))
    ∙ sym (step_at k (x ∷ bytes))

of_is : (bytes : List ℕ) → requests_of bytes ≡ requests_by (length bytes) bytes
unfolding requests_of
of_is bytes = refl

-- a list of requests is the first and those behind it
pub requests_step : (bytes : List ℕ) → requests_of bytes ≡ and_then (first_of bytes) requests_of
requests_step bytes =
    of_is bytes ∙ enough (length bytes) (length bytes) (suc (length bytes)) bytes (omega arith) (omega arith) (omega arith) ∙ step_at (length bytes) bytes
    ∙ and_then_same (first_of bytes) (requests_by (length bytes)) requests_of
    (λ call rest is. let s = request_shorter bytes call rest is in enough (length bytes) (length bytes) (length rest) rest (omega (arith, s)) (omega (arith, s)) (omega arith) ∙ sym (of_is rest))

-- ---- what waits for more bytes

lt_is : (m n : ℕ) → nat_le m n ≡ false → n < m
lt_is m n h = grind (arith, h)

few_asked : (o : Option RequestHead) (a : Result Plan Refusal) (bytes : List ℕ) (n : ℕ) → asked_of o ≡ a → n ≤ LONGEST_HEAD → by_asked a (drop n bytes) ≡ None → length bytes < LONGEST_HEAD + LONGEST_BODY
few_asked o (Err refusal) bytes n is le none = absurd (none-some _ (sym none))
few_asked o (Ok plan) bytes n is le none = by (nat_le plan.len (length (drop n bytes))) refl none
  where
    by : (t : Bool) → nat_le plan.len (length (drop n bytes)) ≡ t → cond {A = Taken} t (Some (call_of plan (take plan.len (drop n bytes)), drop plan.len (drop n bytes))) None ≡ None → length bytes < LONGEST_HEAD + LONGEST_BODY
    by true e got = absurd (none-some _ (sym got))
    by false e got = let short = lt_is plan.len (length (drop n bytes)) e in let left = length-drop n bytes in let fits = plan_fits o plan is in omega (arith, short, left, fits, le)

few_left : (bytes : List ℕ) → first_of bytes ≡ None → length bytes < LONGEST_HEAD + LONGEST_BODY
few_left bytes none = by (head_end bytes) refl
  where
    far : (t : Bool) → nat_le LONGEST_HEAD (length bytes) ≡ t → cond {A = Taken} t (Some (refused HeadTooLarge, drop LONGEST_HEAD bytes)) None ≡ None → length bytes < LONGEST_HEAD + LONGEST_BODY
    far true e got = absurd (none-some _ (sym got))
    far false e got = let short = lt_is LONGEST_HEAD (length bytes) e in omega (arith, short)

    near : (n : ℕ) (t : Bool) → nat_le n LONGEST_HEAD ≡ t → cond {A = Taken} t (by_asked (asked_of (head_of (take n bytes))) (drop n bytes)) (Some (refused HeadTooLarge, drop LONGEST_HEAD bytes)) ≡ None → length bytes < LONGEST_HEAD + LONGEST_BODY
    near n true e got = few_asked (head_of (take n bytes)) (asked_of (head_of (take n bytes))) bytes n refl (le_is n LONGEST_HEAD e) got
    near n false e got = absurd (none-some _ (sym got))

    by : (o : Option ℕ) → head_end bytes ≡ o → length bytes < LONGEST_HEAD + LONGEST_BODY
    by None is = far (nat_le LONGEST_HEAD (length bytes)) refl (sym (first_by bytes None is) ∙ none)
    by (Some n) is = near n (nat_le n LONGEST_HEAD) refl (sym (first_by bytes (Some n) is) ∙ none)

-- ---- turns

abbrev pub unread : List ℕ → Bool → Unread
unread bytes closed = record { bytes = bytes; closed = closed }

open_come : (old : Unread) (more : List ℕ) → old.closed ≡ false → to_come old more ≡ requests_of (old.bytes ++ more)
open_come old more live = ap (λ t. cond t [] (requests_of (old.bytes ++ more))) live

-- the bytes kept of an open connection
pub record IsOpen (old : Unread) (kept read : List ℕ) : Type 0 where
  pub kept_is : kept ≡ old.bytes
  pub read_is : read ≡ kept
  pub live : old.closed ≡ false

pub open_of : (old : Unread) (kept read : List ℕ) (closed : Bool) → unread kept closed ≡ old → read ≡ kept → old.closed ≡ false → IsOpen old kept read
open_of old kept read closed view same live = record { kept_is = ap (λ (u : Unread). u.bytes) view; read_is = same; live = live }

pub none_turn : (old new : Unread) (kept read : List ℕ) → IsOpen old kept read → new ≡ old → first_of read ≡ None → Turns old None new
none_turn old new kept read o same none = record {
  none = open_come old [] o.live ∙ ap requests_of (append-nil old.bytes) ∙ requests_step old.bytes ∙ ap (λ t. and_then t requests_of) (ap first_of (sym (o.read_is ∙ o.kept_is)) ∙ none);
  same = λ more. ap (λ (u : Unread). to_come u more) same;
  few = λ _. few_left new.bytes (ap first_of (ap (λ (u : Unread). u.bytes) same ∙ sym (o.read_is ∙ o.kept_is)) ∙ none);
}

pub refused_turn : (old : Unread) (kept read : List ℕ) (refusal : Refusal) (call : Call) → IsOpen old kept read → IsRefused read refusal → call ≡ refused refusal → Turns old (Some call) (unread kept true)
refused_turn old kept read refusal call o r is = record {
  next = λ more.
      open_come old more o.live ∙ requests_step (old.bytes ++ more)
      ∙ ap (λ t. and_then t requests_of) (ap (λ (xs : List ℕ). first_of (xs ++ more)) (sym (o.read_is ∙ o.kept_is)) ∙ (r more).1)
      ∙ ap (λ (c : Call). c ∷ []) (sym is);
  last = λ shut more. refl;
}

pub some_turn : (old new : Unread) (kept read body : List ℕ) (waiting : Waiting) (call : Call) → IsOpen old kept read → TakesBody read waiting (Some body) → new ≡ unread (drop (waiting.from + waiting.plan.len) old.bytes) waiting.plan.closing → call ≡ call_of waiting.plan body
    → Turns old (Some call) new
some_turn old new kept read body waiting call o taken n is =
    let used = waiting.from + waiting.plan.len in
    let left = unread (drop used old.bytes) waiting.plan.closing in
    let same : read ≡ old.bytes = o.read_is ∙ o.kept_is in
    record {
      next = λ more.
          open_come old more o.live ∙ requests_step (old.bytes ++ more)
          ∙ ap (λ t. and_then t requests_of) (ap (λ (xs : List ℕ). first_of (xs ++ more)) (sym same) ∙ taken.1 more)
          ∙ ap (λ (xs : List ℕ). and_then (Some (call_of waiting.plan body, drop used xs ++ more)) requests_of) same
          ∙ (λ i. sym is i ∷ to_come (sym n i) more);
      last = λ shut more. ap (λ (u : Unread). to_come u more) n ∙ ap (λ t. cond t [] (requests_of (drop used old.bytes ++ more))) (ap (λ (c : Call). c.closing) (sym is) ∙ shut);
    }

true_false : true ≡ false → ⊥
true_false e = cc

pub closed_turn : (old new : Unread) → new ≡ old → old.closed ≡ true → Turns old None new
closed_turn old new same shut = record {
  none = ap (λ t. cond t [] (requests_of (old.bytes ++ []))) shut;
  same = λ more. ap (λ (u : Unread). to_come u more) same;
  few = λ live. absurd (true_false (sym shut ∙ sym (ap (λ (u : Unread). u.closed) same) ∙ live));
}

pub fed : (old new : Unread) (piece : List ℕ) → new ≡ unread (old.bytes ++ piece) old.closed → (more : List ℕ) → to_come new more ≡ to_come old (piece ++ more)
fed old new piece is more = ap (λ (u : Unread). to_come u more) is ∙ ap (λ (xs : List ℕ). cond old.closed [] (requests_of xs)) (append_assoc old.bytes piece more)

-- ---- what is known of the bytes

pub kept_more : (old new piece : List ℕ) (at : ℕ) (begun : Bool) (o : Option Waiting) → new ≡ old ++ piece → IsSearched old at begun × Knows old o → IsSearched new at begun × Knows new o
kept_more old new piece at begun o is k =
    subst (λ (xs : List ℕ). IsSearched xs at begun × Knows xs o) (sym is) (searched_more old piece at begun k.0, knows_more old piece o k.1)
