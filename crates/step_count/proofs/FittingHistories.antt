-- What histories that fit a view have in common, and what one more entry leaves of them.
use Rattle.std.proofs.Common.{◌≡◌, ◌⊎◌, inl, inr, ℕ, ◌+◌, ◌<◌, ◌≤◌, Bool, true, false, cond, List, [], ◌∷◌, ◌++◌, append-nil, refl, sym, ap, ◌∙◌, subst, ⊎_elim, arith, nat_eq}
use Rattle.std.specs.Prelude.{Some, Contains, if◌then◌else◌, ◌||◌, ◌&&◌}
use Rattle.std.proofs.lemmas.List.Elements.{Contains-append_cases, Contains-append_left, Contains-append_right}
use Rattle.list_lemmas.proofs.BoolTests.{not_Some, nat_eq_is}
use Rattle.list_lemmas.proofs.ListMembers.{here, there, split, not_in}
use Rattle.cell_model.specs.declared.events.Step.{Step}
use Rattle.cell_model.specs.declared.events.Step.TheVariants.{Open, Read, NextRow, Bump, Claim, PutPoint, AppendPoint, PutMerged, DropCells}
use Rattle.cell_model.specs.declared.events.Entry.{Entry}
use Rattle.cell_model.specs.declared.events.Placed.{Placed}
use Rattle.cell_model.specs.declared.events.Reply.{Reply}
use Rattle.cell_model.specs.declared.row.Row.{Row}
use Rattle.cell_model.specs.Store.{Store}
use Rattle.cell_model.specs.Machine.{after, reply_of}
use Rattle.cell_model.specs.History.{History, len, entry_at, store_after, Had}
use Rattle.cell_model.specs.History.History.{Base, Then}
use Rattle.cell_model.specs.Lawful.{IsLawful, MayStep, HasOpened}
use Rattle.cell_model.specs.Deeds.{placed}
use Rattle.cell_laws.proofs.CallerLemmas.{entry_at-last, entry_at-more}
use Rattle.cell_laws.specs.StoreParts.{is_in, part, is_mine, picked, replayed}
use Rattle.cell_laws.proofs.PartLemmas.{history_apart, reply-part}
use Rattle.step_count.specs.declared.counter_rule.TheConstants.{OPENINGS}
use Rattle.step_count.specs.declared.view.Named.{Named}
use Rattle.step_count.specs.declared.view.View.{View}
use Rattle.step_count.specs.CounterRule.{store_in, opening, is_open, by_caller, in_region, IsOver, IsLog, Fits, Within}
use Rattle.step_count.specs.ViewSteps.{learned, regions_in, added, MayAdd}
use Rattle.step_count.proofs.LogLists.{extended_back}

pub bool_false : (b : Bool) → (b ≡ true → ⊥) → b ≡ false
bool_false true f = absurd (f refl)
bool_false false f = refl

pub one_or_none : (t : Bool) (x p : Placed) → Contains (cond t (x ∷ []) []) p → (t ≡ true) × (x ≡ p)
one_or_none true x p c = (refl, ⊎_elim (λ e. e) (λ n. absurd (not_in p n)) (split x p [] c))
one_or_none false x p c = absurd (not_in p c)

-- what a test picks
pub picked_same : (test : Entry → Bool) (h : History) (e : Entry) → test e ≡ false → picked test (Then h e) ≡ picked test h
picked_same test h e off = ap (λ b. picked test h ++ cond b (placed (len h + 1) e ∷ []) []) off ∙ append-nil (picked test h)

pub picked_none : (test : Entry → Bool) (h : History) → ((place : ℕ) (e : Entry) → entry_at h place ≡ Some e → test e ≡ false) → picked test h ≡ []
picked_none test (Base base) off = refl
picked_none test (Then h e) off = picked_same test h e (off (len h + 1) e (entry_at-last h e)) ∙ picked_none test h (λ place x is. off place x (entry_at-more h e x place is))

pub picked_has : (test : Entry → Bool) (h : History) (place : ℕ) (e : Entry) → entry_at h place ≡ Some e → test e ≡ true → Contains (picked test h) (placed place e)
picked_has test (Base base) place e is on = absurd (not_Some e (sym is))
picked_has test (Then h last) place e is on = at (nat_eq place (len h + 1)) refl is (λ i. picked_has test h place e i on)
  where
    at : (b : Bool) → nat_eq place (len h + 1) ≡ b → (if b then Some last else entry_at h place) ≡ Some e → (entry_at h place ≡ Some e → Contains (picked test h) (placed place e))
        → Contains (picked test h ++ cond (test last) (placed (len h + 1) last ∷ []) []) (placed place e)
    at true eq is go =
        let same : last ≡ e = cc in
        let spot : placed (len h + 1) last ≡ placed place e = λ i. placed (sym (nat_eq_is _ _ eq) i) (same i) in
        let picks : test last ≡ true = ap test same ∙ on in
        Contains-append_right (picked test h) _ (placed place e)
        (subst (λ b. Contains (cond b (placed (len h + 1) last ∷ []) []) (placed place e)) (sym picks) (subst (Contains (placed (len h + 1) last ∷ [])) spot (here _ [])))
    at false eq is go = Contains-append_left (picked test h) _ (placed place e) (go is)

pub picked_each : (test : Entry → Bool) (h : History) (p : Placed) → Contains (picked test h) p → entry_at h p.place ≡ Some p.entry
picked_each test (Base base) p c = absurd (not_in p c)
picked_each test (Then h e) p c =
    elim (Contains-append_cases (picked test h) (cond (test e) (placed (len h + 1) e ∷ []) []) p c) [
      | inl i ↦ entry_at-more h e p.entry p.place (picked_each test h p i)
      | inr i ↦ let w = one_or_none (test e) (placed (len h + 1) e) p i in subst (λ (x : Placed). entry_at (Then h e) x.place ≡ Some x.entry) w.1 (entry_at-last h e)
    ]

-- each caller's number is a place of the history
opened_low : (h : History) (caller : ℕ) (step : Step) → HasOpened h caller step → MayStep h caller step → ((place : ℕ) (e : Entry) → entry_at h place ≡ Some e → e.caller ≤ len h) → caller ≤ len h + 1
opened_low h caller Open o may low = omega (arith, may)
opened_low h caller (Read row) o may low = let l = low o.0 (opening caller) o.1 in omega (arith, l)
opened_low h caller (NextRow table from to) o may low = let l = low o.0 (opening caller) o.1 in omega (arith, l)
opened_low h caller (Bump kind) o may low = let l = low o.0 (opening caller) o.1 in omega (arith, l)
opened_low h caller (Claim row qual value) o may low = let l = low o.0 (opening caller) o.1 in omega (arith, l)
opened_low h caller (PutPoint point row qual value) o may low = let l = low o.0 (opening caller) o.1 in omega (arith, l)
opened_low h caller (AppendPoint point row piece) o may low = let l = low o.0 (opening caller) o.1 in omega (arith, l)
opened_low h caller (PutMerged row qual value) o may low = let l = low o.0 (opening caller) o.1 in omega (arith, l)
opened_low h caller (DropCells row which) o may low = let l = low o.0 (opening caller) o.1 in omega (arith, l)

pub caller_low : (h : History) → IsLawful h → (place : ℕ) (e : Entry) → entry_at h place ≡ Some e → e.caller ≤ len h
caller_low (Base base) l place e is = absurd (not_Some e (sym is))
caller_low (Then h last) l place e is = at (nat_eq place (len h + 1)) refl is (caller_low h l.0)
  where
    at : (b : Bool) → nat_eq place (len h + 1) ≡ b → (if b then Some last else entry_at h place) ≡ Some e → ((place : ℕ) (e : Entry) → entry_at h place ≡ Some e → e.caller ≤ len h) → e.caller ≤ len h + 1
    at true eq is go =
        let same : last ≡ e = cc in
        subst (λ (x : Entry). x.caller ≤ len h + 1) same (opened_low h last.caller last.step l.1.opened l.1.may go)
    at false eq is go = let low = go place e is in omega (arith, low)

-- a caller that opens next has made no entry yet
pub none_yet : (h : History) → IsLawful h → (caller : ℕ) → len h < caller → picked (by_caller caller) h ≡ []
none_yet h l caller above = picked_none (by_caller caller) h (λ place e is. bool_false (nat_eq e.caller caller) (λ t.
    let same = nat_eq_is e.caller caller t in let low = caller_low h l place e is in omega (arith, same, low, above)))

-- a view that learns the length fits as before
pub fits_learned : (n : Named) (h : History) (v : View) → Fits n h v → Fits n h (learned v (len h))
fits_learned n h v f = record { named = f.named; long = omega arith; seen = f.seen; callers = f.callers; regions = f.regions }

pub fits_shorter : (n : Named) (h : History) (v : View) (k : ℕ) → v.length ≤ k → Fits n h (learned v k) → Fits n h v
fits_shorter n h v k le f = record { named = f.named; long = let l = f.long in omega (arith, l, le); seen = f.seen; callers = f.callers; regions = f.regions }

-- another's entry
pub fits_others : (n : Named) (h : History) (e : Entry) (u : View) → ((c : ℕ) (log : List Placed) → Contains u.callers (c, log) → by_caller c e ≡ false)
    → ((r : ℕ) (log : List Placed) → Contains u.licences (r, log) → in_region n r e ≡ false) → Fits n h u → Fits n (Then h e) u
fits_others n h e u apart away f = record {
  named = f.named;
  long = let l = f.long in omega (arith, l);
  seen = λ p c. entry_at-more h e p.entry p.place (f.seen p c);
  callers = λ c log has. let l = f.callers c log has in record { opened = entry_at-more h e (opening c) c l.opened; all = picked_same (by_caller c) h e (apart c log has) ∙ l.all; each = l.each };
  regions = λ r log has. picked_same (in_region n r) h e (away r log has) ∙ f.regions r log has;
}

-- an entry of one's own, with the licences of its region
pub fits_added : (n : Named) (h : History) (e : Entry) (v : View) → v.named ≡ Some n → Fits n h v → Fits n (Then h e) (added v (len h + 1) e)
fits_added n h e v named f = record {
  named = f.named;
  long = omega arith;
  seen = λ p c. at p (split (placed (len h + 1) e) p v.seen c);
  callers = λ c log has. own c log (extended_back by_caller (placed (len h + 1) e) v.callers c log has);
  regions = λ r log has. region r log (extended_back (in_region (regions_in v.named)) (placed (len h + 1) e) v.licences r log has);
}
  where
    at : (p : Placed) → (placed (len h + 1) e ≡ p) ⊎ Contains v.seen p → entry_at (Then h e) p.place ≡ Some p.entry
    at p (inl same) = subst (λ (x : Placed). entry_at (Then h e) x.place ≡ Some x.entry) same (entry_at-last h e)
    at p (inr c) = entry_at-more h e p.entry p.place (f.seen p c)

    own : (c : ℕ) (log : List Placed) → (log0 : List Placed) × Contains v.callers (c, log0) × (log ≡ log0 ++ cond (by_caller c e) (placed (len h + 1) e ∷ []) []) → IsLog (Then h e) (placed (len h + 1) e ∷ v.seen) c log
    own c log b =
        let l = f.callers c b.0 b.1 in
        record {
          opened = entry_at-more h e (opening c) c l.opened;
          all = ap (λ xs. xs ++ cond (by_caller c e) (placed (len h + 1) e ∷ []) []) l.all ∙ sym b.2;
          each = λ p has. elim (Contains-append_cases b.0 (cond (by_caller c e) (placed (len h + 1) e ∷ []) []) p (subst (λ (xs : List Placed). Contains xs p) b.2 has)) [
            | inl i ↦ there (placed (len h + 1) e) p v.seen (l.each p i)
            | inr i ↦ subst (Contains (placed (len h + 1) e ∷ v.seen)) (one_or_none (by_caller c e) (placed (len h + 1) e) p i).1 (here _ v.seen)
          ];
        }

    region : (r : ℕ) (log : List Placed) → (log0 : List Placed) × Contains v.licences (r, log0) × (log ≡ log0 ++ cond (in_region (regions_in v.named) r e) (placed (len h + 1) e ∷ []) []) → picked (in_region n r) (Then h e) ≡ log
    region r log b =
        ap (λ xs. xs ++ cond (in_region n r e) (placed (len h + 1) e ∷ []) []) (f.regions r b.0 b.1)
        ∙ ap (λ D. b.0 ++ cond (in_region D r e) (placed (len h + 1) e ∷ []) []) (sym (ap regions_in named))
        ∙ sym b.2

pub within_added : (v : View) (place : ℕ) (e : Entry) → v.length ≤ place → Within v → Within (added v place e)
within_added v place e le within p c = at (split (placed place e) p v.seen c)
  where
    at : (placed place e ≡ p) ⊎ Contains v.seen p → p.place ≤ place
    at (inl same) = let is : place ≡ p.place = ap (λ (x : Placed). x.place) same in omega (arith, is)
    at (inr c) = let w = within p c in omega (arith, w, le)

-- a step of one region is none of another
both_regions : (D : Named) (j k : ℕ) (step : Step) → is_mine (is_in D.widths D.data_regions j) step ≡ true → is_mine (is_in D.widths D.data_regions k) step ≡ true → j ≡ k
both_regions D j k Open a b = absurd (false≠true a)
  where
    false≠true : false ≡ true → ⊥
    false≠true e = cc
both_regions D j k (Read row) a b = sym (nat_eq_is _ _ a) ∙ nat_eq_is _ _ b
both_regions D j k (NextRow table from to) a b = sym (nat_eq_is _ _ a) ∙ nat_eq_is _ _ b
both_regions D j k (Bump kind) a b = sym (nat_eq_is _ _ a) ∙ nat_eq_is _ _ b
both_regions D j k (Claim row qual value) a b = sym (nat_eq_is _ _ a) ∙ nat_eq_is _ _ b
both_regions D j k (PutPoint point row qual value) a b = sym (nat_eq_is _ _ a) ∙ nat_eq_is _ _ b
both_regions D j k (AppendPoint point row piece) a b = sym (nat_eq_is _ _ a) ∙ nat_eq_is _ _ b
both_regions D j k (PutMerged row qual value) a b = sym (nat_eq_is _ _ a) ∙ nat_eq_is _ _ b
both_regions D j k (DropCells row which) a b = sym (nat_eq_is _ _ a) ∙ nat_eq_is _ _ b

-- nor is it an opening
not_open : (mine : Row → Bool) (step : Step) → is_mine mine step ≡ true → is_open step ≡ true → ⊥
not_open mine Open a b = absurd (cc)
not_open mine (Read row) a b = absurd (cc)
not_open mine (NextRow table from to) a b = absurd (cc)
not_open mine (Bump kind) a b = absurd (cc)
not_open mine (Claim row qual value) a b = absurd (cc)
not_open mine (PutPoint point row qual value) a b = absurd (cc)
not_open mine (AppendPoint point row piece) a b = absurd (cc)
not_open mine (PutMerged row qual value) a b = absurd (cc)
not_open mine (DropCells row which) a b = absurd (cc)

one_of : (a b c : Bool) → (a || (b && c)) ≡ true → (a ≡ true) ⊎ (b ≡ true)
one_of true b c is = inl refl
one_of false true c is = inr refl
one_of false false c is = absurd (cc)

pub other_region : (D : Named) (j k : ℕ) (e : Entry) → is_mine (is_in D.widths D.data_regions k) e.step ≡ true → (j ≡ k → ⊥) → in_region D j e ≡ false
other_region D j k e mine apart = bool_false (in_region D j e) (λ a. ⊎_elim
    (λ same. apart (both_regions D j k e.step same mine))
    (λ opens. not_open (is_in D.widths D.data_regions k) e.step mine opens)
    (one_of (is_mine (is_in D.widths D.data_regions j) e.step) (is_open e.step) (nat_eq j OPENINGS) a))

-- what a licence has of openings changes no store, so its entries make of a store what those make that look at the region
replayed_both : (s : Store) (xs ys : List Placed) → replayed s (xs ++ ys) ≡ replayed (replayed s xs) ys
replayed_both s [] ys = refl
replayed_both s (x ∷ xs) ys = replayed_both (after s x.place x.entry.step) xs ys

or_false : (b : Bool) → (b || false) ≡ b
or_false true = refl
or_false false = refl

opening_alike : (s : Store) (p : Placed) (b : Bool) → p.entry.step ≡ Open → replayed s (cond b (p ∷ []) []) ≡ s
opening_alike s p true is = ap (after s p.place) is
opening_alike s p false is = refl

entry_alike : (n : Named) (number : ℕ) (s : Store) (place caller : ℕ) (step : Step) (reply : Reply)
    → replayed s (cond (in_region n number (record { caller = caller; step = step; reply = reply })) (placed place (record { caller = caller; step = step; reply = reply }) ∷ []) [])
    ≡ replayed s (cond (is_mine (is_in n.widths n.data_regions number) step) (placed place (record { caller = caller; step = step; reply = reply }) ∷ []) [])
entry_alike n number s place caller Open reply = opening_alike s (placed place (record { caller = caller; step = Open; reply = reply })) (nat_eq number OPENINGS) refl
entry_alike n number s place caller (Read row) reply = ap (λ b. replayed s (cond b (placed place (record { caller = caller; step = Read row; reply = reply }) ∷ []) [])) (or_false _)
entry_alike n number s place caller (NextRow table from to) reply = ap (λ b. replayed s (cond b (placed place (record { caller = caller; step = NextRow table from to; reply = reply }) ∷ []) [])) (or_false _)
entry_alike n number s place caller (Bump kind) reply = ap (λ b. replayed s (cond b (placed place (record { caller = caller; step = Bump kind; reply = reply }) ∷ []) [])) (or_false _)
entry_alike n number s place caller (Claim row qual value) reply = ap (λ b. replayed s (cond b (placed place (record { caller = caller; step = Claim row qual value; reply = reply }) ∷ []) [])) (or_false _)
entry_alike n number s place caller (PutPoint point row qual value) reply = ap (λ b. replayed s (cond b (placed place (record { caller = caller; step = PutPoint point row qual value; reply = reply }) ∷ []) [])) (or_false _)
entry_alike n number s place caller (AppendPoint point row piece) reply = ap (λ b. replayed s (cond b (placed place (record { caller = caller; step = AppendPoint point row piece; reply = reply }) ∷ []) [])) (or_false _)
entry_alike n number s place caller (PutMerged row qual value) reply = ap (λ b. replayed s (cond b (placed place (record { caller = caller; step = PutMerged row qual value; reply = reply }) ∷ []) [])) (or_false _)
entry_alike n number s place caller (DropCells row which) reply = ap (λ b. replayed s (cond b (placed place (record { caller = caller; step = DropCells row which; reply = reply }) ∷ []) [])) (or_false _)

replayed_alike : (n : Named) (number : ℕ) (s : Store) (h : History) → replayed s (picked (in_region n number) h) ≡ replayed s (picked (λ e. is_mine (is_in n.widths n.data_regions number) e.step) h)
replayed_alike n number s (Base base) = refl
replayed_alike n number s (Then h e) =
    let mine = λ (x : Entry). is_mine (is_in n.widths n.data_regions number) x.step in
    replayed_both s (picked (in_region n number) h) (cond (in_region n number e) (placed (len h + 1) e ∷ []) [])
    ∙ ap (λ t. replayed t (cond (in_region n number e) (placed (len h + 1) e ∷ []) [])) (replayed_alike n number s h)
    ∙ entry_alike n number (replayed s (picked mine h)) (len h + 1) e.caller e.step e.reply
    ∙ sym (replayed_both s (picked mine h) (cond (mine e) (placed (len h + 1) e ∷ []) []))

-- a region's part of the store is the replay of what its licence has
pub region_after : (n : Named) (number : ℕ) (h : History) (log : List Placed) → IsOver n h → picked (in_region n number) h ≡ log
    → part (is_in n.widths n.data_regions number) (store_after h) ≡ replayed (part (is_in n.widths n.data_regions number) (store_in n)) log
region_after n number h log over is =
    let mine = is_in n.widths n.data_regions number in
    history_apart mine h
    ∙ ap (λ s. replayed (part mine s) (picked (λ e. is_mine mine e.step) h)) over.base
    ∙ sym (replayed_alike n number (part mine (store_in n)) h)
    ∙ ap (replayed (part mine (store_in n))) is

-- what may be added is allowed, and its reply is the machine's
has_opened : (h : History) (caller : ℕ) (step : Step) → Had h (opening caller) → HasOpened h caller step
has_opened h caller Open had = tt
has_opened h caller (Read row) had = had
has_opened h caller (NextRow table from to) had = had
has_opened h caller (Bump kind) had = had
has_opened h caller (Claim row qual value) had = had
has_opened h caller (PutPoint point row qual value) had = had
has_opened h caller (AppendPoint point row piece) had = had
has_opened h caller (PutMerged row qual value) had = had
has_opened h caller (DropCells row which) had = had

pub may_lawful : (n : Named) (h : History) (v : View) (e : Entry) → IsOver n h → Fits n h v → MayAdd v e → IsOver n (Then h e)
may_lawful n h v e over f may =
    let name : may.name ≡ n = f.named may.name may.named in
    let D = may.name in
    let over' : IsOver may.name h = subst (λ m. IsOver m h) (sym name) over in
    let f' : Fits may.name h v = subst (λ m. Fits m h v) (sym name) f in
    let content : part (is_in D.widths D.data_regions may.region) (store_after h) ≡ replayed (part (is_in D.widths D.data_regions may.region) (store_in may.name)) may.log =
    region_after D may.region h may.log over' (f'.regions may.region may.log may.licence) in
    record {
      base = over.base;
      lawful = (
        over.lawful,
        record { opened = has_opened h e.caller e.step (e.caller, (f.callers e.caller may.own may.caller).opened); may = may.may h over' f' },
        may.reply (len h + 1) ∙ ap (λ s. reply_of s (len h + 1) e.step) (sym content) ∙ reply-part (is_in D.widths D.data_regions may.region) (store_after h) (len h + 1) e.step may.mine may.stays,
      );
    }
