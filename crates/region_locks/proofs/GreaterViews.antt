-- A view that has all that another has.
use Rattle.std.proofs.Common.{◌≡◌, ◌⊎◌, inl, inr, ℕ, ◌≤◌, max, true, false, List, [], ◌∷◌, ◌++◌, map, append-nil, refl, sym, ap, ◌∙◌, subst, arith}
use Rattle.std.specs.Prelude.{Some, Contains}
use Rattle.std.proofs.lemmas.List.Elements.{Contains-append_left, Contains-append_right}
use mathlib.Core.List.{map-append}
use Rattle.cell_model.specs.declared.events.Entry.{Entry}
use Rattle.cell_model.specs.declared.events.Placed.{Placed}
use Rattle.cell_model.specs.History.{History, entry_at}
use Rattle.cell_model.specs.Seen.{Seen, Saw, Waited, HasSeenOpening}
use Rattle.cell_model.specs.Deeds.{placed, Extends}
use Rattle.step_count.specs.declared.counter_rule.TheConstants.{OPENINGS}
use Rattle.step_count.specs.declared.view.Named.{Named}
use Rattle.step_count.specs.declared.view.View.{View}
use Rattle.step_count.specs.CounterRule.{Log, AreDifferent, numbers_in, opening, by_caller, in_region, store_in, Fits}
use Rattle.step_count.specs.ViewSteps.{HasLicence, Lives, callers_alone, extended, learned, met, first_named, opened, regions_in, without_callers}
use Rattle.step_count.specs.FirstViews.{name_in, opener}
use Rattle.region_locks.specs.CallerViews.{head_of, rest_of, base_in, numbers_of, opened_by, opened_numbers, seen_of, IsCaller, IsNote, IsOpener, Heard, MadeNoMore, SawOpeningsAlone}
use Rattle.region_locks.specs.SiteEnds.{took}
use Rattle.region_locks.proofs.Lower.{nat_eq-refl, here, split, not_in, in_map, picked_has}
use Rattle.region_locks.proofs.SeenViews.{own_in, own_seen}

pub record Sub (v u : View) : Type 0 where
  pub named : (m : Named) → v.named ≡ Some m → u.named ≡ Some m
  pub length : v.length ≤ u.length
  pub seen : (p : Placed) → Contains v.seen p → Contains u.seen p
  pub callers : (c : ℕ) (log : List Placed) → Contains v.callers (c, log) → Contains u.callers (c, log)
  pub licences : (r : ℕ) (log : List Placed) → Contains v.licences (r, log) → Contains u.licences (r, log)

pub sub_refl : (v : View) → Sub v v
sub_refl v = record { named = λ m e. e; length = omega arith; seen = λ p c. c; callers = λ c log a. a; licences = λ r log a. a }

pub sub_trans : (v u w : View) → Sub v u → Sub u w → Sub v w
sub_trans v u w a b = record {
  named = λ m e. b.named m (a.named m e);
  length = let x = a.length in let y = b.length in omega (arith, x, y);
  seen = λ p c. b.seen p (a.seen p c);
  callers = λ c log x. b.callers c log (a.callers c log x);
  licences = λ r log x. b.licences r log (a.licences r log x);
}

pub sub_met : (v l : View) → Sub v (met v l)
sub_met v l = record {
  named = λ m e. ap (λ b. first_named b l.named) e;
  length = omega arith;
  seen = λ p c. Contains-append_left v.seen l.seen p c;
  callers = λ c log a. Contains-append_left v.callers l.callers (c, log) a;
  licences = λ r log a. Contains-append_left v.licences l.licences (r, log) a;
}

pub sub_other : (name : Named) (v l : View) → v.named ≡ Some name → l.named ≡ Some name → Sub l (met v l)
sub_other name v l vn ln = record {
  named = λ m e. ap (λ b. first_named b l.named) vn ∙ sym ln ∙ e;
  length = omega arith;
  seen = λ p c. Contains-append_right v.seen l.seen p c;
  callers = λ c log a. Contains-append_right v.callers l.callers (c, log) a;
  licences = λ r log a. Contains-append_right v.licences l.licences (r, log) a;
}

pub sub_learned : (v : View) (n : ℕ) → v.length ≤ n → Sub v (learned v n)
sub_learned v n le = record { named = λ m e. e; length = le; seen = λ p c. c; callers = λ c log a. a; licences = λ r log a. a }

pub sub_took : (v : View) (ls : List View) → Sub v (took v ls)
sub_took v [] = sub_refl v
sub_took v (l ∷ ls) = sub_trans v (met v l) (took (met v l) ls) (sub_met v l) (sub_took (met v l) ls)

-- what fits the greater fits the lesser
pub fits_sub : (n : Named) (h : History) (v u : View) → Sub v u → Lives v → Fits n h u → Fits n h v
fits_sub n h v u sub live f = record {
  named = λ m e. f.named m (sub.named m e);
  long = let a = f.long in let b = sub.length in omega (arith, a, b);
  seen = λ p c. f.seen p (sub.seen p c);
  callers = λ c log has. let g = f.callers c log (sub.callers c log has) in record { opened = g.opened; all = g.all; each = λ p i. (own_seen v live c log has p i).1 };
  regions = λ r log has. f.regions r log (sub.licences r log has);
}

-- an own entry of the lesser that the greater has seen, the lesser has seen
pub own_sub : (v u : View) → Sub v u → Lives v → Lives u → (c : ℕ) (log : List Placed) → Contains v.callers (c, log) → (q : ℕ) (x : Entry) → x.caller ≡ c → Contains u.seen (placed q x) → Saw (seen_of v) q x
own_sub v u sub old new c log has q x mine now =
    let g = new.fits.callers c log (sub.callers c log has) in
    let at : entry_at new.history q ≡ Some x = new.fits.seen (placed q x) now in
    let test : by_caller c x ≡ true = subst (λ k. by_caller k x ≡ true) mine (nat_eq-refl x.caller) in
    own_seen v old c log has (placed q x) (subst (λ (xs : List Placed). Contains xs (placed q x)) g.all (picked_has (by_caller c) new.history q x at test))

is_own : (ls : List Log) (first : Log) (others : List Log) → ls ≡ first ∷ others → (c : ℕ) (log : List Placed) → Contains ls (c, log) → (c ≡ head_of ls) ⊎ Contains (rest_of ls) c
is_own ls first others is c log has = subst (λ (xs : List Log). Contains xs (c, log) → (c ≡ head_of xs) ⊎ Contains (rest_of xs) c) (sym is) go has
  where
    go : Contains (first ∷ others) (c, log) → (c ≡ first.0) ⊎ Contains (map (λ (l : Log). l.0) others) c
    go i = elim (split first (c, log) others i) [ inl e ↦ inl (sym (ap (λ (l : Log). l.0) e)) | inr j ↦ inr (in_map (λ (l : Log). l.0) others (c, log) j) ]

pub extends_sub : (name : Named) (v u : View) → IsCaller name v → IsCaller name u → Sub v u → Extends (seen_of v) (seen_of u)
extends_sub name v u cv cu sub = record {
  base = ap base_in (cu.named ∙ sym cv.named);
  length = sub.length;
  kept = λ q x saw. ((let a = saw.0 in let b = sub.length in omega (arith, a, b)), sub.seen (placed q x) saw.1);
  fits = λ h f. record {
    base = f.base ∙ ap base_in (cu.named ∙ sym cv.named);
    long = let a = f.long in let b = sub.length in omega (arith, a, b);
    seen = λ q x saw. f.seen q x ((let a = saw.0 in let b = sub.length in omega (arith, a, b)), sub.seen (placed q x) saw.1);
    no_other = λ q x le own at.
        let w = own_in v.callers cv.first cv.others cv.callers x.caller own in
        let saw = f.no_other q x (let b = sub.length in omega (arith, le, b)) (is_own u.callers cu.first cu.others cu.callers x.caller w.0 (sub.callers x.caller w.0 w.1)) at in
        own_sub v u sub cv.live cu.live x.caller w.0 w.1 q x refl saw.1;
  };
}

-- by another name
pub extends_from : (old same new : Seen) → old ≡ same → Extends old new → Extends same new
extends_from old same new is e = subst (λ s. Extends s new) is e

-- the same caller, later, that made nothing
pub waited_sub : (name : Named) (v u : View) → IsCaller name v → IsCaller name u → Sub v u → head_of u.callers ≡ head_of v.callers → rest_of u.callers ≡ rest_of v.callers → Waited (seen_of v) (seen_of u)
waited_sub name v u cv cu sub same_head same_rest = record {
  base = ap base_in (cu.named ∙ sym cv.named);
  caller = same_head;
  absorbed = same_rest;
  length = sub.length;
  kept = λ q x saw. ((let a = saw.0 in let b = sub.length in omega (arith, a, b)), sub.seen (placed q x) saw.1);
  no_own = λ q x saw own. let w = own_in v.callers cv.first cv.others cv.callers x.caller own in own_sub v u sub cv.live cu.live x.caller w.0 w.1 q x refl saw.1;
  alone = refl;
  still = λ a. absurd (false≠true a);
}
  where
    false≠true : false ≡ true → ⊥
    false≠true e = cc

-- learning
pub caller_learned : (name : Named) (v w : View) (n : ℕ) → IsCaller name v → w ≡ learned v n → v.length ≤ n → Lives w → IsCaller name w × Waited (seen_of v) (seen_of w)
caller_learned name v w n c is le live = subst (λ (x : View). Lives x → IsCaller name x × Waited (seen_of v) (seen_of x)) (sym is) (λ l.
    let cu : IsCaller name (learned v n) = record { named = c.named; free = c.free; first = c.first; others = c.others; callers = c.callers; live = l } in
    (cu, waited_sub name v (learned v n) c cu (sub_learned v n le) refl refl)) live

-- meeting
pub caller_met : (name : Named) (v l u w : View) (n : ℕ) → IsCaller name v → IsNote name l → u ≡ met v l → w ≡ learned u n → u.length ≤ n → Lives w
    → IsCaller name w × Waited (seen_of v) (seen_of w) × Heard l (seen_of w)
caller_met name v l u w n c note is1 is2 le live =
    let is : w ≡ learned (met v l) n = is2 ∙ ap (λ x. learned x n) is1 in
    let up : max v.length l.length ≤ n = subst (λ (x : View). x.length ≤ n) is1 le in
    subst (λ (x : View). Lives x → IsCaller name x × Waited (seen_of v) (seen_of x) × Heard l (seen_of x)) (sym is) (all up) live
  where
    same : v.callers ++ l.callers ≡ v.callers
    same = ap (λ (xs : List Log). v.callers ++ xs) note.nobody ∙ append-nil v.callers

    free : v.licences ++ l.licences ≡ []
    free = (λ i. c.free i ++ note.free i)

    all : max v.length l.length ≤ n → Lives (learned (met v l) n) → IsCaller name (learned (met v l) n) × Waited (seen_of v) (seen_of (learned (met v l) n)) × Heard l (seen_of (learned (met v l) n))
    all up live =
        let cu : IsCaller name (learned (met v l) n) = record { named = ap (λ b. first_named b l.named) c.named; free = free; first = c.first; others = c.others; callers = same ∙ c.callers; live = live } in (
          cu,
          waited_sub name v (learned (met v l) n) c cu (sub_trans v (met v l) (learned (met v l) n) (sub_met v l) (sub_learned (met v l) n up)) (ap head_of same) (ap rest_of same),
          record {
            length = omega (arith, up);
            kept = λ p i. let x = Contains-append_right v.seen l.seen p i in (live.within p x, x);
          },
        )

-- a caller's numbers are those of its view, and no two of them are one
numbers_told : (name : Named) (v : View) → IsCaller name v → numbers_of (seen_of v) ≡ numbers_in v.callers
numbers_told name v c = ap (λ (xs : List Log). head_of xs ∷ rest_of xs) c.callers ∙ sym (ap numbers_in c.callers)

pub numbers_different : (name : Named) (v : View) → IsCaller name v → AreDifferent (numbers_of (seen_of v))
numbers_different name v c = subst AreDifferent (sym (numbers_told name v c)) c.live.once

-- the caller has its own numbers and then the other's, and no two of them are one
pub record HasNumbers (v l w : View) : Type 0 where
  pub numbers : numbers_of (seen_of w) ≡ numbers_of (seen_of v) ++ numbers_of (seen_of l)
  pub different : AreDifferent (numbers_of (seen_of w))

-- and so by other names
pub different_as : (name : Named) (v : View) (s : Seen) → IsCaller name v → seen_of v ≡ s → AreDifferent (numbers_of s)
different_as name v s c is = subst (λ (x : Seen). AreDifferent (numbers_of x)) is (numbers_different name v c)

pub numbers_as : (own other own' other' : Seen) (now : List ℕ) → own ≡ own' → other ≡ other' → now ≡ numbers_of own ++ numbers_of other → now ≡ numbers_of own' ++ numbers_of other'
numbers_as own other own' other' now own_is other_is are = are ∙ (λ i. numbers_of (own_is i) ++ numbers_of (other_is i))

-- absorbing
pub caller_absorbed : (name : Named) (v l u w : View) (n : ℕ) → IsCaller name v → IsCaller name l → u ≡ met v l → w ≡ learned u n → u.length ≤ n → Lives w
    → IsCaller name w × Extends (seen_of v) (seen_of w) × Extends (seen_of l) (seen_of w) × (head_of w.callers ≡ head_of v.callers) × HasNumbers v l w
caller_absorbed name v l u w n c o is1 is2 le live =
    let is : w ≡ learned (met v l) n = is2 ∙ ap (λ x. learned x n) is1 in
    let up : max v.length l.length ≤ n = subst (λ (x : View). x.length ≤ n) is1 le in
    subst (λ (x : View). Lives x → IsCaller name x × Extends (seen_of v) (seen_of x) × Extends (seen_of l) (seen_of x) × (head_of x.callers ≡ head_of v.callers) × HasNumbers v l x) (sym is) (all up) live
  where
    all : max v.length l.length ≤ n → Lives (learned (met v l) n) → IsCaller name (learned (met v l) n) × Extends (seen_of v) (seen_of (learned (met v l) n)) × Extends (seen_of l) (seen_of (learned (met v l) n)) × (head_of (v.callers ++ l.callers) ≡ head_of v.callers) × HasNumbers v l (learned (met v l) n)
    all up live =
        let cu : IsCaller name (learned (met v l) n) = record { named = ap (λ b. first_named b l.named) c.named; free = (λ i. c.free i ++ o.free i); first = c.first; others = c.others ++ l.callers; callers = ap (λ (xs : List Log). xs ++ l.callers) c.callers; live = live } in
        let later = sub_learned (met v l) n up in (
          cu,
          extends_sub name v (learned (met v l) n) c cu (sub_trans v (met v l) (learned (met v l) n) (sub_met v l) later),
          extends_sub name l (learned (met v l) n) o cu (sub_trans l (met v l) (learned (met v l) n) (sub_other name v l c.named o.named) later),
          ap (λ (xs : List Log). head_of (xs ++ l.callers)) c.callers ∙ sym (ap head_of c.callers),
          record {
            numbers = numbers_told name (learned (met v l) n) cu ∙ map-append (λ (k : Log). k.0) v.callers l.callers ∙ (λ i. sym (numbers_told name v c) i ++ sym (numbers_told name l o) i);
            different = numbers_different name (learned (met v l) n) cu;
          },
        )

-- neither made an entry meanwhile
made_no_more : (name : Named) (v u : View) → IsCaller name v → IsCaller name u → Sub v u → MadeNoMore (seen_of v) (seen_of u)
made_no_more name v u cv cu sub h f q x le own at =
    let w = own_in v.callers cv.first cv.others cv.callers x.caller own in
    let saw = f.no_other q x le (is_own u.callers cu.first cu.others cu.callers x.caller w.0 (sub.callers x.caller w.0 w.1)) at in
    own_sub v u sub cv.live cu.live x.caller w.0 w.1 q x refl saw.1

pub absorbed_made : (name : Named) (v l u w : View) (n : ℕ) → IsCaller name v → IsCaller name l → u ≡ met v l → w ≡ learned u n → u.length ≤ n → Lives w → MadeNoMore (seen_of v) (seen_of w) × MadeNoMore (seen_of l) (seen_of w)
absorbed_made name v l u w n c o is1 is2 le live =
    let cw = (caller_absorbed name v l u w n c o is1 is2 le live).0 in
    let later : Sub (met v l) w = subst (λ (x : View). Sub x w) is1 (subst (Sub u) (sym is2) (sub_learned u n le)) in (
      made_no_more name v w c cw (sub_trans v (met v l) w (sub_met v l) later),
      made_no_more name l w o cw (sub_trans l (met v l) w (sub_other name v l c.named o.named) later),
    )

-- and so by another name
pub made_from : (old same new : Seen) → old ≡ same → MadeNoMore old new → MadeNoMore same new
made_from old same new is m = subst (λ s. MadeNoMore s new) is m

-- opening
pub record HasOpened (name : Named) (w : View) : Type 0 where
  pub caller : IsCaller name w
  pub opening_seen : HasSeenOpening (seen_of w)
  pub alone : SawOpeningsAlone (seen_of w)
  pub base : (seen_of w).base ≡ store_in name
  pub absorbed : (seen_of w).absorbed ≡ []

pub caller_opened : (name : Named) (s w : View) (n : ℕ) → IsOpener name s → w ≡ callers_alone (opened s n) → Lives w → HasOpened name w
caller_opened name s w n o is live = subst (λ (x : View). Lives x → HasOpened name x) (sym is) (λ l. record {
  caller = record { named = o.named; free = refl; first = (n, placed n (opening n) ∷ []); others = []; callers = ap (λ (ls : List Log). (n, placed n (opening n) ∷ []) ∷ ls) o.nobody; live = l };
  opening_seen = (n, (omega arith, here (placed n (opening n)) s.seen));
  alone = λ q x saw. elim (split (placed n (opening n)) (placed q x) s.seen saw.1) [ inl same ↦ ap (λ (p : Placed). p.entry.step) (sym same) | inr was ↦ o.only (placed q x) was ];
  base = ap base_in o.named;
  absorbed = ap numbers_in o.nobody;
}) live

-- that by which it opened has its number behind those before
pub still_opens : (name : Named) (s w : View) (n : ℕ) → IsOpener name s → w ≡ without_callers (opened s n) → IsOpener name w × (opened_numbers w ≡ opened_numbers s ++ n ∷ [])
still_opens name s w n o is = subst (λ (x : View). IsOpener name x × (opened_numbers x ≡ opened_numbers s ++ n ∷ [])) (sym is) (
  record {
    named = o.named;
    nobody = refl;
    log = o.log ++ placed n (opening n) ∷ [];
    licence = more;
    only = λ p has. elim (split (placed n (opening n)) p s.seen has) [ inl same ↦ ap (λ (q : Placed). q.entry.step) (sym same) | inr was ↦ o.only p was ];
  },
  ap opened_by more ∙ map-append (λ (p : Placed). p.entry.caller) o.log (placed n (opening n) ∷ []) ∙ ap (λ (ls : List Log). opened_by ls ++ n ∷ []) (sym o.licence),
)
  where
    more : extended (in_region (regions_in s.named)) (placed n (opening n)) s.licences ≡ (OPENINGS, o.log ++ placed n (opening n) ∷ []) ∷ []
    more = ap (extended (in_region (regions_in s.named)) (placed n (opening n))) o.licence

-- both, where one call made them
pub record DidOpen (name : Named) (s s' w : View) : Type 0 where
  pub has : HasOpened name w
  pub opener_is : IsOpener name s'
  pub numbers : opened_numbers s' ≡ opened_numbers s ++ (seen_of w).caller ∷ []

pub did_open : (name : Named) (s s' w : View) (n : ℕ) → IsOpener name s → w ≡ callers_alone (opened s n) → s' ≡ without_callers (opened s n) → Lives w → DidOpen name s s' w
did_open name s s' w n o w_is s_is live =
    let t = still_opens name s s' n o s_is in
    record { has = caller_opened name s w n o w_is live; opener_is = t.0; numbers = t.1 ∙ ap (λ (x : View). opened_numbers s ++ head_of x.callers ∷ []) (sym w_is) }

-- it has the licence
pub opener_log : (name : Named) (s : View) → (o : IsOpener name s) → Contains s.licences (OPENINGS, o.log)
opener_log name s o = subst (λ (ls : List Log). Contains ls (OPENINGS, o.log)) (sym o.licence) (here (OPENINGS, o.log) [])

pub opener_has : (name : Named) (s : View) → IsOpener name s → HasLicence OPENINGS s
opener_has name s o = (o.log, opener_log name s o)

-- before anyone opened
pub opener_first : (name : Named) (number : ℕ) (v : View) → v ≡ opener (Some name) number 0 → IsOpener (name_in v.named) v × (opened_numbers v ≡ [])
opener_first name number v is = subst (λ (x : View). IsOpener (name_in x.named) x × (opened_numbers x ≡ [])) (sym is) (record { named = refl; nobody = refl; log = []; licence = refl; only = λ p has. absurd (not_in p has) }, refl)
