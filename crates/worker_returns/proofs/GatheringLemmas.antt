-- Connections that are given back worker by worker.
use Rattle.std.proofs.Common.{◌≡◌, ◌≢◌, ℕ, ◌+◌, ◌-◌, ◌^◌, ◌≤◌, Bool, true, false, ◌&&◌, List, [], ◌∷◌, ◌++◌, length, ◌⊎◌, inl, inr, ⊎_elim, refl, sym, subst, ap, ◌∙◌, append_assoc, append-nil, length-append, arith}
use Rattle.std.specs.List.{sum_by}
use Rattle.std.specs.Prelude.{Option, None, Some, Result, Ok, Err, IfOk, OnErr, is_ok, min, filter, All, Contains, map}
use Rattle.std.proofs.lemmas.Bool.{true≢false}
use Rattle.std.proofs.lemmas.List.Elements.{All-head, All-nil, All-push, All-tail, Contains-append_cases, Contains-append_left, Contains-append_right, filter-append}
use Rattle.std.proofs.lemmas.List.Sums.{sum_by-cons, sum_by_push}
use Rattle.std.proofs.lemmas.Grind.{flat_map-append}
use mathlib.Core.List.{map-append, map-map}
use lib.ListN.{length-map}
use Rattle.list_lemmas.proofs.ListMembers.{here, there, in_map, not_in, pairs_in, pairs_tail, split}
use Rattle.list_lemmas.proofs.ListParts.{length_push, pairs_front, pairs_push}
use Rattle.tsd_io.specs.Causes.{joined}
use Rattle.tsd_doors.specs.Links.{Counts, Shut}
use Rattle.link_workers.specs.Returns.{AllEnd, many_returned}
use Rattle.cell_model.specs.declared.events.Entry.{Entry}
use Rattle.cell_model.specs.History.{History, entry_at}
use Rattle.cell_model.specs.Seen.{Seen, Fits, InEach, IsOwn}
use Rattle.cell_model.specs.Deeds.{Extends}
use Rattle.step_count.specs.CounterRule.{AreDifferent}
use Rattle.step_count.proofs.CallerLemmas.{none_different, one_different, different_among}
use Rattle.region_locks.specs.CallerViews.{MadeNoMore, numbers_of}
use Rattle.point_put.specs.Admissions.{Admission}
use Rattle.tsd_daemon.specs.declared.served.Served.{Served}
use Rattle.conn_workers.specs.ServedLinks.{ClockTold, OnlyServed, ServedLink, ServingTerms, WorkerServed, clock_fault_count, is_clock_fault}
use Rattle.worker_returns.specs.GatheredLinks.{CallerLinks, Gathered, GivenBack, ReturnsTold, TakenBack, callers_of, links_of, returned_by}

-- a list that is told, and then more
ends_more : (a b c : Option (List Shut)) (xs ys : List Shut) → AllEnd a b xs → AllEnd b c ys → AllEnd a c (xs ++ ys)
ends_more None b c xs ys first more = tt
ends_more (Some all) b c xs ys first more = let then_ : c ≡ Some ((all ++ xs) ++ ys) = subst (λ (o : Option (List Shut)). AllEnd o c ys) first more in then_ ∙ ap (λ (l : List Shut). Some l) (append_assoc all xs ys)

pub none_end : (a : Option (List Shut)) → AllEnd a a []
none_end None = tt
none_end (Some all) = ap (λ (l : List Shut). Some l) (sym (append-nil all))

count_joined : (xs ys : List ServedLink) → clock_fault_count (xs ++ ys) ≡ clock_fault_count xs + clock_fault_count ys
count_joined xs ys =
    let test = λ (l : ServedLink). is_clock_fault l.1 in
    ap length (filter-append test xs ys) ∙ length-append (filter test xs) (filter test ys)

-- one caller more
links_more : (callers : List CallerLinks) (k : CallerLinks) → links_of (callers ++ k ∷ []) ≡ links_of callers ++ returned_by k
links_more callers k = flat_map-append returned_by callers (k ∷ []) ∙ ap (λ l. links_of callers ++ l) (append-nil (returned_by k))

-- a caller has none of these numbers, and they with its own are among those
pub record IsNew (numbers all : List ℕ) (caller : ℕ) : Type 0 where
  pub different : AreDifferent (numbers ++ caller ∷ [])
  pub among : (number : ℕ) → Contains (numbers ++ caller ∷ []) number → Contains all number

-- a caller that was absorbed is new among those that were
pub absorbed_new : (s s' w : Seen) → numbers_of s' ≡ numbers_of s ++ numbers_of w → AreDifferent (numbers_of s') → IsNew s.absorbed s'.absorbed w.caller
absorbed_new s s' w are different = record {
  different = pairs_front (λ a b. a ≢ b) (s.absorbed ++ w.caller ∷ []) w.absorbed (subst AreDifferent parts (pairs_tail (λ a b. a ≢ b) s'.caller s'.absorbed different));
  among = λ number has. subst (λ (l : List ℕ). Contains l number) (sym parts) (Contains-append_left (s.absorbed ++ w.caller ∷ []) w.absorbed number has);
}
  where
    behind : s'.absorbed ≡ s.absorbed ++ w.caller ∷ w.absorbed
    behind = cc

    parts : s'.absorbed ≡ (s.absorbed ++ w.caller ∷ []) ++ w.absorbed
    parts = behind ∙ sym (append_assoc s.absorbed (w.caller ∷ []) w.absorbed)

-- and the caller itself among those that it absorbed
pub own_new : (own s : Seen) → own.caller ≡ s.caller → AreDifferent (numbers_of s) → IsNew s.absorbed (numbers_of s) own.caller
own_new own s same different = record {
  different = pairs_push (λ a b. a ≢ b) s.absorbed own.caller (pairs_tail (λ a b. a ≢ b) s.caller s.absorbed different) (λ number has is. pairs_in (λ a b. a ≢ b) s.caller number s.absorbed different has (sym (is ∙ same)));
  among = λ number has. ⊎_elim
      (λ i. there s.caller number s.absorbed i)
      (λ i. ⊎_elim (λ (is : own.caller ≡ number). subst (Contains (numbers_of s)) (sym same ∙ is) (here s.caller s.absorbed)) (λ none. absurd (not_in number none)) (split own.caller number [] i))
      (Contains-append_cases s.absorbed (own.caller ∷ []) number has);
}

-- nothing was given back yet
pub none_gathered : (terms : ServingTerms) (s : Seen) (numbers : List ℕ) (told : ReturnsTold) (ends : List Served) → ends ≡ [] → Gathered terms s numbers 0 told told ends
none_gathered terms s numbers told ends none = record {
  callers = [];
  count_is = refl;
  different = none_different;
  among = λ number has. absurd (not_in number has);
  served = λ h law fits. All-nil (λ (k : CallerLinks). OnlyServed terms h k.caller k.last k.links);
  none_behind = λ k has. absurd (not_in k has);
  given = record { doors = none_end told.back; ends_are = none; clock_faults = omega arith };
}

-- none made an entry behind what one had seen, nor behind what is seen later
behind_later : (s s' : Seen) (caller last : ℕ) → Extends s s' → MadeNoMore s s' → IsOwn s caller → ((h : History) → Fits s h → (place : ℕ) (e : Entry) → place ≤ s.length → e.caller ≡ caller → entry_at h place ≡ Some e → place ≤ last)
    → (h : History) → Fits s' h → (place : ℕ) (e : Entry) → place ≤ s'.length → e.caller ≡ caller → entry_at h place ≡ Some e → place ≤ last
behind_later s s' caller last later made mine before h fits place e le own at =
    let saw = made h fits place e le (subst (IsOwn s) (sym own) mine) at in
    before h (later.fits h fits) place e saw.0 own at

-- more was seen, and the clock's count rose
pub gathered_later : (terms : ServingTerms) (s s' : Seen) (numbers numbers' : List ℕ) (count : ℕ) (first told : ReturnsTold) (n : ℕ) (ends : List Served)
    → ((number : ℕ) → Contains numbers number → Contains numbers' number) → ((number : ℕ) → Contains numbers number → IsOwn s number) → Extends s s' → MadeNoMore s s' → told.clock_faults ≤ n → Gathered terms s numbers count first told ends
    → Gathered terms s' numbers' count first (record told { clock_faults = n }) ends
gathered_later terms s s' numbers numbers' count first told n ends more_numbers own_are later made le g = record {
  callers = g.callers;
  count_is = g.count_is;
  different = g.different;
  among = λ number has. more_numbers number (g.among number has);
  served = λ h law fits. g.served h law (later.fits h fits);
  none_behind = λ k has. behind_later s s' k.caller k.last later made (own_are k.caller (g.among k.caller (in_map (λ (k : CallerLinks). k.caller) g.callers k has))) (g.none_behind k has);
  given = record { doors = g.given.doors; ends_are = g.given.ends_are; clock_faults = more g.given.clock_faults };
}
  where
    more : min (first.clock_faults + clock_fault_count (links_of g.callers)) (2 ^ 64 - 1) ≤ told.clock_faults → min (first.clock_faults + clock_fault_count (links_of g.callers)) (2 ^ 64 - 1) ≤ n
    more few = omega (arith, few, le)

-- one caller more, whatever was given back
caller_more : (terms : ServingTerms) (s s' : Seen) (numbers numbers' : List ℕ) (count : ℕ) (one : CallerLinks) (first told told' : ReturnsTold) (ends ends' : List Served)
    → IsNew numbers numbers' one.caller → ((number : ℕ) → Contains numbers number → IsOwn s number) → Extends s s' → MadeNoMore s s' → InEach s' (λ h. OnlyServed terms h one.caller one.last one.links)
    → ((h : History) → Fits s' h → (place : ℕ) (e : Entry) → place ≤ s'.length → e.caller ≡ one.caller → entry_at h place ≡ Some e → place ≤ one.last) → (g : Gathered terms s numbers count first told ends)
    → GivenBack first told' ends' (links_of g.callers ++ returned_by one) → Gathered terms s' numbers' (count + 1) first told' ends'
caller_more terms s s' numbers numbers' count one first told told' ends ends' new own_are later made served behind g given = record {
  callers = g.callers ++ one ∷ [];
  count_is = length_push g.callers one ∙ ap (λ k. k + 1) g.count_is;
  different = subst AreDifferent (sym numbers_are) (different_among numbers (one.caller ∷ []) (callers_of g.callers) (one.caller ∷ []) new.different g.different (one_different one.caller) g.among (λ number has. has));
  among = λ number has. new.among number (more_in number (subst (λ (l : List ℕ). Contains l number) numbers_are has));
  served = λ h law fits. All-push (λ (k : CallerLinks). OnlyServed terms h k.caller k.last k.links) g.callers one (g.served h law (later.fits h fits)) (served h law fits);
  none_behind = λ k has. ⊎_elim
      (λ i. behind_later s s' k.caller k.last later made (own_are k.caller (g.among k.caller (in_map (λ (k : CallerLinks). k.caller) g.callers k i))) (g.none_behind k i))
      (λ i. ⊎_elim
      (λ (is : one ≡ k). subst (λ (k : CallerLinks). (h : History) → Fits s' h → (place : ℕ) (e : Entry) → place ≤ s'.length → e.caller ≡ k.caller → entry_at h place ≡ Some e → place ≤ k.last) is behind)
      (λ none. absurd (not_in k none))
      (split one k [] i))
      (Contains-append_cases g.callers (one ∷ []) k has);
  given = subst (GivenBack first told' ends') (sym (links_more g.callers one)) given;
}
  where
    numbers_are : callers_of (g.callers ++ one ∷ []) ≡ callers_of g.callers ++ one.caller ∷ []
    numbers_are = map-append (λ (k : CallerLinks). k.caller) g.callers (one ∷ [])

    more_in : (number : ℕ) → Contains (callers_of g.callers ++ one.caller ∷ []) number → Contains (numbers ++ one.caller ∷ []) number
    more_in number has = ⊎_elim (λ i. Contains-append_left numbers (one.caller ∷ []) number (g.among number i)) (λ i. Contains-append_right numbers (one.caller ∷ []) number i) (Contains-append_cases (callers_of g.callers) (one.caller ∷ []) number has)

-- what a worker made ends at what it had seen
worker_behind : (w s' : Seen) → MadeNoMore w s' → (h : History) → Fits s' h → (place : ℕ) (e : Entry) → place ≤ s'.length → e.caller ≡ w.caller → entry_at h place ≡ Some e → place ≤ w.length
worker_behind w s' made h fits place e le own at = (made h fits place e le (inl own) at).0

-- the connections that a worker served were given back
gathered_more : {K : Type 0} (shown : K → Shut) (terms : ServingTerms) (by : Admission) (s s' w : Seen) (numbers numbers' : List ℕ) (count : ℕ) (twin : ClockTold) (first told told' : ReturnsTold) (ends ends' : List Served) (served : List (K × Served)) → IsNew numbers numbers' w.caller → ((number : ℕ) → Contains numbers number → IsOwn s number) → Extends s s' → MadeNoMore s s' → Extends w s' → MadeNoMore w s' → told'.clock_faults ≡ joined told.clock_faults twin.faults
    → WorkerServed terms by w twin (map (λ one. (shown one.0, one.1)) served)
    → AllEnd told.back told'.back (map (λ one. shown one.0) served) → ends' ≡ ends ++ map (λ one. one.1) served → Gathered terms s numbers count first told ends → Gathered terms s' numbers' (count + 1) first told' ends'
gathered_more {K = K} shown terms by s s' w numbers numbers' count twin first told told' ends ends' served new own_are mine made theirs theirs_made rose ws backs are g =
    caller_more terms s s' numbers numbers' count (record { caller = w.caller; last = w.length; links = links; returned = true }) first told told' ends ends' new own_are mine made (λ h law fits. ws.served h law (theirs.fits h fits)) (worker_behind w s' theirs_made) g (record {
      doors = subst (AllEnd first.back told'.back) (ap (λ l. map (λ (l : ServedLink). l.0) (links_of g.callers) ++ l) (sym (map-map (λ (l : ServedLink). l.0) pair served)) ∙ sym (map-append (λ (l : ServedLink). l.0) (links_of g.callers) links))
          (ends_more first.back told.back told'.back _ _ g.given.doors backs);
      ends_are = are ∙ ap (λ l. l ++ map (λ (o : K × Served). o.1) served) g.given.ends_are ∙ ap (λ l. map (λ (l : ServedLink). l.1) (links_of g.callers) ++ l) (sym (map-map (λ (l : ServedLink). l.1) pair served))
          ∙ sym (map-append (λ (l : ServedLink). l.1) (links_of g.callers) links);
      clock_faults = counts (clock_fault_count (links_of g.callers ++ links)) (clock_fault_count (links_of g.callers)) (clock_fault_count links) (count_joined (links_of g.callers) links) g.given.clock_faults ws.clock_faults;
    })
  where
    pair : K × Served → ServedLink
    pair one = (shown one.0, one.1)

    links : List ServedLink
    links = map pair served

    counts : (all k j : ℕ) → all ≡ k + j → min (first.clock_faults + k) (2 ^ 64 - 1) ≤ told.clock_faults → min j (2 ^ 64 - 1) ≤ twin.faults → min (first.clock_faults + all) (2 ^ 64 - 1) ≤ told'.clock_faults
    counts all k j is few within = omega (arith, is, few, within, rose)

-- for want of memory none of them was, and yet they were served
gathered_lost : {K : Type 0} (shown : K → Shut) (terms : ServingTerms) (by : Admission) (s s' w : Seen) (numbers numbers' : List ℕ) (count : ℕ) (twin : ClockTold) (first told : ReturnsTold) (n : ℕ) (ends : List Served) (served : List (K × Served)) → IsNew numbers numbers' w.caller → ((number : ℕ) → Contains numbers number → IsOwn s number) → Extends s s' → MadeNoMore s s' → Extends w s' → MadeNoMore w s' → told.clock_faults ≤ n
    → WorkerServed terms by w twin (map (λ one. (shown one.0, one.1)) served) → Gathered terms s numbers count first told ends → Gathered terms s' numbers' (count + 1) first (record told { clock_faults = n }) ends
gathered_lost {K = K} shown terms by s s' w numbers numbers' count twin first told n ends served new own_are mine made theirs theirs_made later ws g =
    caller_more terms s s' numbers numbers' count (record { caller = w.caller; last = w.length; links = map (λ (one : K × Served). (shown one.0, one.1)) served; returned = false }) first told (record told { clock_faults = n }) ends ends new own_are mine made
    (λ h law fits. ws.served h law (theirs.fits h fits)) (worker_behind w s' theirs_made) g
    (subst (GivenBack first (record told { clock_faults = n }) ends) (sym (append-nil (links_of g.callers))) (record { doors = g.given.doors; ends_are = g.given.ends_are; clock_faults = more g.given.clock_faults }))
  where
    more : min (first.clock_faults + clock_fault_count (links_of g.callers)) (2 ^ 64 - 1) ≤ told.clock_faults → min (first.clock_faults + clock_fault_count (links_of g.callers)) (2 ^ 64 - 1) ≤ n
    more few = omega (arith, few, later)

-- a worker's connections were given back, or for want of memory none of them was
pub gathered_either : {K X E : Type 0} (Q : Type 0) (shown : K → Shut) (terms : ServingTerms) (by : Admission) (s s' w : Seen) (numbers numbers' : List ℕ) (count : ℕ) (twin : ClockTold) (first told told' : ReturnsTold) (ends ends' : List Served) (served : List (K × Served)) (r : Result X E) → IsNew numbers numbers' w.caller → ((number : ℕ) → Contains numbers number → IsOwn s number) → Extends s s' → MadeNoMore s s' → Extends w s' → MadeNoMore w s' → told'.clock_faults ≡ joined told.clock_faults twin.faults → told.clock_faults ≤ told'.clock_faults
    → WorkerServed terms by w twin (map (λ one. (shown one.0, one.1)) served)
    → IfOk r (λ _. AllEnd told.back told'.back (map (λ one. shown one.0) served)) → IfOk r (λ _. ends' ≡ ends ++ map (λ one. one.1) served) → OnErr r ((told'.back ≡ told.back) × Q × (ends' ≡ ends)) → Gathered terms s numbers count first told ends
    → Gathered terms s' numbers' (count + 1) first told' ends'
gathered_either Q shown terms by s s' w numbers numbers' count twin first told told' ends ends' served (Ok x) new own_are mine made theirs theirs_made rose later ws backs are none g =
    gathered_more shown terms by s s' w numbers numbers' count twin first told told' ends ends' served new own_are mine made theirs theirs_made rose ws backs are g
gathered_either Q shown terms by s s' w numbers numbers' count twin first told told' ends ends' served (Err e) new own_are mine made theirs theirs_made rose later ws backs are none g =
    subst (λ (o : Option (List Shut)). Gathered terms s' numbers' (count + 1) first (record { back = o; clock_faults = told'.clock_faults }) ends') (sym none.0)
    (subst (Gathered terms s' numbers' (count + 1) first (record told { clock_faults = told'.clock_faults })) (sym none.2)
    (gathered_lost shown terms by s s' w numbers numbers' count twin first told told'.clock_faults ends served new own_are mine made theirs theirs_made later ws g))

-- nobody made an entry between what was seen and the same
pub made_same : (s : Seen) → MadeNoMore s s
made_same s h fits place e le own at = fits.no_other place e le own at

pub made_more : (s t u : Seen) → Extends t u → MadeNoMore s t → MadeNoMore t u → ((number : ℕ) → IsOwn s number → IsOwn t number) → MadeNoMore s u
made_more s t u later first then_ own_are h fits place e le own at =
    let saw = then_ h fits place e le (own_are e.caller own) at in
    first h (later.fits h fits) place e saw.0 own at

-- callers that were absorbed are the caller's own
pub absorbed_own : (s : Seen) (number : ℕ) → Contains s.absorbed number → IsOwn s number
absorbed_own s number has = inr has

-- who absorbed another has its own numbers still
pub own_stays : (s s' w : Seen) → numbers_of s' ≡ numbers_of s ++ numbers_of w → (number : ℕ) → IsOwn s number → IsOwn s' number
own_stays s s' w are number own = in_numbers s' number (subst (λ (l : List ℕ). Contains l number) (sym are) (Contains-append_left (numbers_of s) (numbers_of w) number (among_numbers s number own)))
  where
    among_numbers : (s : Seen) (number : ℕ) → IsOwn s number → Contains (numbers_of s) number
    among_numbers s number (inl is) = subst (Contains (numbers_of s)) (sym is) (here s.caller s.absorbed)
    among_numbers s number (inr i) = there s.caller number s.absorbed i

    in_numbers : (s : Seen) (number : ℕ) → Contains (numbers_of s) number → IsOwn s number
    in_numbers s number has = ⊎_elim (λ (is : s.caller ≡ number). inl (sym is)) (λ i. inr i) (split s.caller number s.absorbed has)

-- ---- counts

-- how many callers there are
pub none_more : (count : ℕ) → count ≡ count + 0
none_more count = omega arith

pub from_none : (n : ℕ) → 0 + n + 1 ≡ n + 1
from_none n = omega arith

pub one_more_caller : {X : Type 0} (count : ℕ) (xs : List X) (x : X) → count + length xs + 1 ≡ count + length (xs ++ x ∷ [])
one_more_caller count xs x = let one = length_push xs x in omega (arith, one)

-- none was to be given back
pub none_taken : (ends : ℕ) (counts : Counts) → TakenBack true 0 ends ends counts counts
none_taken ends counts = record { port = refl; accepted = refl; few = omega arith; told = refl; each = λ all. omega arith }

-- those of one worker were, or for want of memory none was
pub one_taken : {K X E : Type 0} (Q : Type 0) (r : Result X E) (b : Bool) (served : List (K × Served)) (ends ends' : List Served) (x y : Counts) → b ≡ is_ok r → length served ≤ x.out → IfOk r (λ _. y ≡ many_returned (length served) x)
    → IfOk r (λ _. ends' ≡ ends ++ map (λ one. one.1) served) → OnErr r (Q × (y ≡ x) × (ends' ≡ ends)) → TakenBack b (length served) (length ends) (length ends') x y
one_taken {K = K} Q (Ok v) b served ends ends' x y is few counts are none =
    let more : length ends' ≡ length ends + length served = ap length are ∙ length-append ends (map (λ (o : K × Served). o.1) served) ∙ ap (λ n. length ends + n) (length-map served (λ (o : K × Served). o.1)) in
    subst (λ (c : Counts). TakenBack b (length served) (length ends) (length ends') x c) (sym counts) (all_of more)
  where
    all_of : length ends' ≡ length ends + length served → TakenBack b (length served) (length ends) (length ends') x (many_returned (length served) x)
    all_of more = record { port = refl; accepted = omega (arith, few); few = omega arith; told = omega (arith, more); each = λ all. refl }
one_taken Q (Err e) b served ends ends' x y is few counts are none =
    subst (λ (c : Counts). TakenBack b (length served) (length ends) (length ends') x c) (sym none.1) (subst (λ (l : List Served). TakenBack b (length served) (length ends) (length l) x x) (sym none.2)
    (record { port = refl; accepted = refl; few = omega arith; told = refl; each = λ all. absurd (true≢false (sym all ∙ is)) }))

and_true : (a b : Bool) → (a && b) ≡ true → (a ≡ true) × (b ≡ true)
and_true true b is = (refl, is)
and_true false b is = absurd (true≢false (sym is))

-- some, and then more
pub more_taken : (a b : Bool) (k j e e1 e2 : ℕ) (x y z : Counts) → TakenBack a k e e1 x y → TakenBack b j e1 e2 y z → TakenBack (a && b) (k + j) e e2 x z
more_taken a b k j e e1 e2 x y z first then_ = record {
  port = then_.port ∙ first.port;
  accepted = then_.accepted ∙ first.accepted;
  few = few first.few then_.few;
  told = told first.told then_.told;
  each = λ both. each (first.each (and_true a b both).0) (then_.each (and_true a b both).1);
}
  where
    few : x.out ≤ y.out + k → y.out ≤ z.out + j → x.out ≤ z.out + (k + j)
    few f s = omega (arith, f, s)

    told : e1 + x.returned ≡ e + y.returned → e2 + y.returned ≡ e1 + z.returned → e2 + x.returned ≡ e + z.returned
    told f s = omega (arith, f, s)

    each : y.returned ≡ x.returned + k → z.returned ≡ y.returned + j → z.returned ≡ x.returned + (k + j)
    each f s = omega (arith, f, s)

-- ---- lists of workers

-- the first of a list, and the others
pub first_holds : {X : Type 0} (xs rest : List X) (x : X) (P : X → Type 0) → xs ≡ x ∷ rest → All P xs → P x
first_holds xs rest x P are all = All-head P x rest (subst (All P) are all)

pub others_hold : {X : Type 0} (xs rest : List X) (x : X) (P : X → Type 0) → xs ≡ x ∷ rest → All P xs → All P rest
others_hold xs rest x P are all = All-tail P x rest (subst (All P) are all)

-- the same list
pub same_list_holds : {X : Type 0} (xs ys : List X) (P : X → Type 0) → ys ≡ xs → All P xs → All P ys
same_list_holds xs ys P same all = subst (All P) (sym same) all

pub same_list_counts : {X : Type 0} (xs ys : List X) (f : X → ℕ) (n : ℕ) → ys ≡ xs → sum_by f xs ≤ n → sum_by f ys ≤ n
same_list_counts xs ys f n same few = subst (λ (l : List _). sum_by f l ≤ n) (sym same) few

-- sums over a list, of which the first was taken
pub first_counted : {X : Type 0} (xs rest : List X) (x : X) (f : X → ℕ) → xs ≡ x ∷ rest → sum_by f xs ≡ f x + sum_by f rest
first_counted xs rest x f are = ap (sum_by f) are ∙ sum_by-cons f x rest

pub one_more_counted : {X : Type 0} (xs : List X) (x : X) (f : X → ℕ) → sum_by f (xs ++ x ∷ []) ≡ sum_by f xs + f x
one_more_counted xs x f = sum_by_push f xs x

-- some more were taken back, by their numbers under other names
pub more_taken_as : (a b both : Bool) (k j all e e1 e2 : ℕ) (x y z : Counts) → both ≡ (a && b) → all ≡ k + j → TakenBack a k e e1 x y → TakenBack b j e1 e2 y z → TakenBack both all e e2 x z
more_taken_as a b both k j all e e1 e2 x y z same sum first then_ = subst (λ (t : Bool). TakenBack t all e e2 x z) (sym same) (subst (λ (n : ℕ). TakenBack (a && b) n e e2 x z) (sym sum) (more_taken a b k j e e1 e2 x y z first then_))

-- ---- what was seen

-- nothing more was seen
pub extends_same : (s : Seen) → Extends s s
extends_same s = record { base = refl; length = omega arith; kept = λ place e saw. saw; fits = λ h fits. fits }

pub extends_more : (s t u : Seen) → Extends s t → Extends t u → Extends s u
extends_more s t u first then_ = record {
  base = then_.base ∙ first.base;
  length = le first.length then_.length;
  kept = λ place e saw. then_.kept place e (first.kept place e saw);
  fits = λ h fits. first.fits h (then_.fits h fits);
}
  where
    le : s.length ≤ t.length → t.length ≤ u.length → s.length ≤ u.length
    le f g = omega (arith, f, g)

-- some were taken back where no end was told before, and then more
pub taken_from_none : (a b : Bool) (k j e e1 e2 : ℕ) (x y z : Counts) → e ≡ 0 → TakenBack a k e e1 x y → TakenBack b j e1 e2 y z → TakenBack (a && b) (k + j) 0 e2 x z
taken_from_none a b k j e e1 e2 x y z none first then_ = more_taken a b k j 0 e1 e2 x y z (subst (λ (n : ℕ). TakenBack a k n e1 x y) none first) then_
