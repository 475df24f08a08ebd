-- The one history that a fleet's connections were served in.
use Rattle.std.proofs.Common.{◌≡◌, ◌≢◌, ◌⊎◌, inl, inr, ⊎_elim, ℕ, suc, ◌+◌, ◌<◌, ◌≤◌, true, false, Bool, List, [], ◌∷◌, ◌++◌, length, refl, sym, ap, ◌∙◌, subst, length-append, rules, arith}
use Rattle.std.specs.Prelude.{Contains, Option, None, Some, nat_le}
use Rattle.std.proofs.lemmas.Bool.{true≢false}
use Rattle.std.proofs.lemmas.List.Elements.{All-nil, Contains-append_cases}
use lib.ListN.{length-map}
use Rattle.list_lemmas.proofs.ListMembers.{all_in, here, there, in_map, map_in, not_in, pairs_in, pairs_tail, split}
use Rattle.tsd_doors.specs.Links.{Shut}
use Rattle.cell_model.specs.Store.{Store}
use Rattle.cell_model.specs.declared.events.Entry.{Entry}
use Rattle.cell_model.specs.History.{History, base_of, entry_at, store_after}
use Rattle.cell_model.specs.History.History.{Base}
use Rattle.cell_model.specs.Lawful.{IsLawful}
use Rattle.cell_model.specs.Seen.{Seen, Saw, IsOwn, Fits}
use Rattle.step_count.specs.CounterRule.{AreDifferent, opening}
use Rattle.step_count.proofs.CallerLemmas.{none_different}
use Rattle.region_locks.specs.CallerViews.{numbers_of}
use Rattle.tsd_daemon.specs.declared.served.Served.{Served}
use Rattle.row_compactors.specs.Upkeep.{brings_new}
use Rattle.conn_workers.specs.ServedLinks.{IsWithin, OnlyServed, ServedInTurn, ServedLink, ServingTerms}
use Rattle.conn_workers.specs.ServedLinks.ServedInTurn.{none_yet, then_served}
use Rattle.link_workers.specs.Returns.{AllEnd}
use Rattle.worker_returns.specs.GatheredLinks.{CallerLinks, Gathered, GivenBack, callers_of, links_of}
use Rattle.worker_returns.proofs.CallerLemmas.{none_end}
use Rattle.tsd_fleet.specs.Devices.{DoorsTold, FleetDevices, Terms, returns_told, served_by}
use Rattle.fleet_threads.specs.WorkedSites.{SiteWorked}
use Rattle.fleet_threads.proofs.CallerLemmas.{own_number}
use Rattle.tsd_fleet.specs.FleetStands.{FleetStands, MadeServing}

-- ---- all that opened

-- a list without one of its elements
record Without (x : ℕ) (all : List ℕ) : Type 0 where
  rest : List ℕ
  fewer : length all ≡ suc (length rest)
  same_or : (y : ℕ) → Contains all y → (x ≡ y) ⊎ Contains rest y

without_one : (x : ℕ) (all : List ℕ) → Contains all x → Without x all
without_one x [] has = absurd (not_in x has)
without_one x (y ∷ ys) has = at (split y x ys has) (without_one x ys)
  where
    at : (y ≡ x) ⊎ Contains ys x → (Contains ys x → Without x ys) → Without x (y ∷ ys)
    at (inl same) go = record { rest = ys; fewer = refl; same_or = λ z i. ⊎_elim (λ (is : y ≡ z). inl (sym same ∙ is)) (λ j. inr j) (split y z ys i) }
    at (inr i) go = let w = go i in record {
      rest = y ∷ w.rest;
      fewer = ap suc w.fewer;
      same_or = λ z j. ⊎_elim
          (λ (is : y ≡ z). inr (subst (Contains (y ∷ w.rest)) is (here y w.rest)))
          (λ k. ⊎_elim (λ (same : x ≡ z). inl same) (λ m. inr (there y z w.rest m)) (w.same_or z k))
          (split y z ys j);
    }

-- some that differ are all, where they are as many
all_listed : (some_of all : List ℕ) → AreDifferent some_of → ((x : ℕ) → Contains some_of x → Contains all x) → length all ≡ length some_of → (x : ℕ) → Contains all x → Contains some_of x
all_listed [] [] apart within same x has = has
all_listed [] (y ∷ ys) apart within same x has = absurd (omega (arith, same))
all_listed (y ∷ ys) all apart within same x has =
    let w = without_one y all (within y (here y ys)) in
    let fewer = w.fewer in
    at w.rest (w.same_or x has) (all_listed ys w.rest (pairs_tail (λ a b. a ≢ b) y ys apart)
    (λ z i. ⊎_elim (λ (is : y ≡ z). absurd (pairs_in (λ a b. a ≢ b) y z ys apart i is)) (λ j. j) (w.same_or z (within z (there y z ys i))))
    (omega (arith, same, fewer)) x)
  where
    at : (rest : List ℕ) → (y ≡ x) ⊎ Contains rest x → (Contains rest x → Contains ys x) → Contains (y ∷ ys) x
    at rest (inl is) go = subst (Contains (y ∷ ys)) is (here y ys)
    at rest (inr i) go = there y x ys (go i)

-- ---- what serves

within_or_behind : (n m : ℕ) → (n ≤ m) ⊎ (m < n)
within_or_behind n m = at (nat_le n m) refl
  where
    at : (b : Bool) → nat_le n m ≡ b → (n ≤ m) ⊎ (m < n)
    at true t = inl (search (rules, t))
    at false t = inr (search (rules, t))

-- an entry that brings something new is within the lengths of a connection
serves_one : {terms : ServingTerms} {h : History} {caller : ℕ} {links : List ServedLink} {last : ℕ} (turns : ServedInTurn terms h caller links last) (place : ℕ) (e : Entry) → place ≤ last → e.caller ≡ caller
    → entry_at h place ≡ Some e → brings_new e.step ≡ true → IsWithin turns place
serves_one (none_yet last alone) place e le own at new = absurd (true≢false (sym new ∙ ap brings_new (alone place e le own at)))
serves_one (then_served {before = before} {n = n} {n2 = n2} link earlier up1 up2 up3 none1 none2 served) place e le own at new = ⊎_elim
    (λ low. inl (serves_one earlier place e low own at new))
    (λ above. ⊎_elim
    (λ low. absurd (none1 place e above low own at))
    (λ above_n. ⊎_elim (λ low. inr (above_n, low)) (λ above_n2. absurd (none2 place e above_n2 le own at)) (within_or_behind place n2))
    (within_or_behind place n))
    (within_or_behind place before)

-- ---- the history

-- no connection was served in a history without an entry
pub none_back : (terms : Terms) (before after : FleetDevices) (ends : List Served) → IsLawful (Base terms.base) → after.doors.back ≡ before.doors.back → after.clock.faults ≡ before.clock.faults → ends ≡ [] → FleetStands terms before after terms.base ends
none_back terms before after ends law same still none = record {
  history = Base terms.base;
  lawful = law;
  base_is = refl;
  store_is = refl;
  callers = [];
  different = none_different;
  served = All-nil (λ (k : CallerLinks). OnlyServed (served_by terms before.clock.moments) (Base terms.base) k.caller k.last k.links);
  given = record { doors = subst (λ (o : Option (List Shut)). AllEnd before.doors.back o []) (sym same) (none_end before.doors.back); ends_are = none; clock_faults = omega (arith, still) };
  nothing_else = λ place e at new. absurd (no_entry e at);
}
  where
    no_entry : (e : Entry) → None ≡ Some e → ⊥
    no_entry e is = cc

-- the site's own history is one that fits
pub stands : (terms : Terms) (before after : FleetDevices) (opened : List ℕ) (s : Seen) (store : Store) (ends : List Served) (h : History) → IsLawful h → Fits s h → base_of h ≡ terms.base → store ≡ store_after h
    → ((place : ℕ) (e : Entry) → IsOwn s e.caller → entry_at h place ≡ Some e → Saw s place e) → ((caller : ℕ) → IsOwn s caller → (entry_at h caller ≡ Some (opening caller)) × Contains opened caller)
    → ((place : ℕ) (e : Entry) → entry_at h place ≡ Some e → Contains opened e.caller)
    → SiteWorked (served_by terms before.clock.moments) opened s (returns_told before) (returns_told after) ends → FleetStands terms before after store ends
stands terms before after opened s store ends h law fits base_is store_is own mine listed w = record {
  history = h;
  lawful = law;
  base_is = base_is;
  store_is = store_is;
  callers = g.callers;
  different = g.different;
  served = g.served h law fits;
  given = g.given;
  nothing_else = λ place e at new. ⊎_elim
      (λ i. serving place e at new (map_in (λ (k : CallerLinks). k.caller) g.callers e.caller i))
      (λ i. absurd (true≢false (sym new ∙ w.nothing_new e.caller i h law fits place e (own place e (own_number s e.caller (w.among e.caller i)) at).0 refl at)))
      (Contains-append_cases (callers_of g.callers) w.others e.caller (all_listed (callers_of g.callers ++ w.others) opened w.different within count e.caller (listed place e at)));
}
  where
    g : Gathered (served_by terms before.clock.moments) s (numbers_of s) w.count (returns_told before) (returns_told after) ends
    g = w.gathered

    within : (number : ℕ) → Contains (callers_of g.callers ++ w.others) number → Contains opened number
    within number has = (mine number (own_number s number (⊎_elim (λ i. g.among number i) (λ i. w.among number i) (Contains-append_cases (callers_of g.callers) w.others number has)))).1

    count : length opened ≡ length (callers_of g.callers ++ w.others)
    count = w.all ∙ sym (length-append (callers_of g.callers) w.others ∙ ap (λ n. n + length w.others) (length-map g.callers (λ (k : CallerLinks). k.caller) ∙ g.count_is))

    serving : (place : ℕ) (e : Entry) → entry_at h place ≡ Some e → brings_new e.step ≡ true → (k : CallerLinks) × Contains g.callers k × (k.caller ≡ e.caller) → MadeServing (served_by terms before.clock.moments) h g.callers place e
    serving place e at new k =
        let low = (own place e (own_number s e.caller (g.among e.caller (subst (Contains (callers_of g.callers)) k.2 (in_map (λ (k : CallerLinks). k.caller) g.callers k.0 k.1)))) at).0 in
        let turns = (all_in (λ (k : CallerLinks). OnlyServed (served_by terms before.clock.moments) h k.caller k.last k.links) k.0 g.callers (g.served h law fits) k.1).in_turn in
        (k.0, k.1, sym k.2, (turns, serves_one turns place e (g.none_behind k.0 k.1 h fits place e low (sym k.2) at) (sym k.2) at new))

-- the same over another name of the base, where the doors were otherwise before
pub stands_from : (terms : Terms) (b : Store) (before after : FleetDevices) (d : DoorsTold) (store : Store) (ends : List Served) → b ≡ terms.base → d.back ≡ before.doors.back
    → FleetStands (record terms { base = b }) (record before { doors = d }) after store ends → FleetStands terms before after store ends
stands_from terms b before after d store ends same still f = record {
  history = f.history;
  lawful = f.lawful;
  base_is = f.base_is ∙ same;
  store_is = f.store_is;
  callers = f.callers;
  different = f.different;
  served = f.served;
  given = subst (λ (o : Option (List Shut)). GivenBack (record { back = o; clock_faults = before.clock.faults }) (returns_told after) ends (links_of f.callers)) still f.given;
  nothing_else = f.nothing_else;
}
