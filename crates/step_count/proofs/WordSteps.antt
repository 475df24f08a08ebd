-- The steps on the word keep the rule: learning the length, adding an entry and opening.
use Rattle.std.proofs.Common.{◌≡◌, ◌≢◌, ◌⊎◌, inl, inr, ℕ, ◌+◌, ◌≤◌, eqb, eq-eqb, ne_eqb, true, false, cond, List, [], ◌∷◌, ◌++◌, set, refl, sym, ap, ◌∙◌, subst, ⊎_elim, arith, nat_eq}
use Rattle.std.specs.Prelude.{slice_index, Some, Contains}
use mathlib.Core.Option.{some, some-injective, some-ne-none}
use mathlib.Core.Logic.{dite}
use native.Mathlib.Decide.{ℕ_discrete}
use prog.Atomic.{either}
use lib.ListN.{get_elem?}
use Rattle.atomic_table.specs.Table.{step, keeps, stepped, Allows}
use Rattle.atomic_table.proofs.Lists.{at_set, set_here, set_else}
use Rattle.list_lemmas.proofs.BoolTests.{nat_eq_is, nat_eq-refl}
use Rattle.list_lemmas.proofs.ListMembers.{here, there, split, not_in}
use Rattle.cell_model.specs.declared.events.Entry.{Entry}
use Rattle.cell_model.specs.declared.events.Placed.{Placed}
use Rattle.cell_model.specs.History.{History, len, entry_at}
use Rattle.cell_model.specs.History.History.{Then}
use Rattle.cell_model.specs.Deeds.{placed}
use Rattle.cell_laws.specs.StoreParts.{is_in, is_mine, picked}
use Rattle.cell_laws.proofs.CallerLemmas.{bounded, entry_at-last, entry_at-more}
use Rattle.step_count.specs.declared.counter_rule.TheConstants.{COUNT, OPENINGS}
use Rattle.step_count.specs.declared.view.Named.{Named}
use Rattle.step_count.specs.declared.view.View.{View}
use Rattle.step_count.specs.CounterRule.{Log, opening, by_caller, in_region, IsOver, IsLog, Fits, Within, HasEachOnce, AreDifferent, Holder, NoTwoHold, IsKnown, licences_in, callers_in, words_of, Kept}
use Rattle.step_count.specs.ViewSteps.{Seated, learned, regions_in, added, opened, Lives, MayAdd, HasLicence, Learns, Adds, Opens}
use Rattle.step_count.proofs.LogLists.{extended_back, extended_less, extended_more, numbers_extended}
use Rattle.step_count.proofs.CallerNumbers.{different_more}
use Rattle.step_count.proofs.FittingHistories.{bool_false, picked_same, none_yet, fits_learned, fits_others, fits_added, within_added, other_region, may_lawful}
use Rattle.step_count.proofs.CounterTurns.{HasWaited, may_later, licence_later}
use Rattle.step_count.proofs.Holders.{CounterState, held_set, one_set, still_held, within_list}

-- the rule after one view has changed, over a history that may be longer
moved : (n : Named) (s : CounterState) (r : Kept n s) (id : ℕ) (v w : View) → get_elem? s.views id ≡ some v → (log : History) → IsOver n log
    → ((j : ℕ) (u : View) → j ≢ id → get_elem? s.views j ≡ some u → Fits n log u) → Fits n log w → Within w
    → ((q : ℕ) (log : List Placed) → Contains v.licences (q, log) → (log' : List Placed) × Contains w.licences (q, log')) → NoTwoHold licences_in (set s.views id w) → NoTwoHold callers_in (set s.views id w) → HasEachOnce w
    → ((p : Placed) → Contains v.seen p → Contains w.seen p)
    → ((place : ℕ) → place ≤ len log → (place ≤ len r.history) ⊎ ((e : Entry) × Contains w.seen (placed place e)))
    → (k : ℕ) → k ≡ len log → (c : List (ℕ × Unit {0})) → Kept n (stepped s COUNT k id c w keeps)
moved n s r id v w at log over others mine within kept lic call once more new k is c = record {
  history = log;
  word = ap (λ ws. set ws COUNT k) r.word ∙ ap words_of is;
  over = over;
  fits = λ j u e. ⊎_elim (λ t. subst (Fits n log) t.1 mine) (λ t. others j u t.0 t.1) (at_set s.views id j w u e);
  within = λ j u e. ⊎_elim (λ t. subst Within t.1 within) (λ t. r.within j u t.1) (at_set s.views id j w u e);
  licences = λ q lt. still_held licences_in s.views id v w at q (kept q) (r.licences q lt);
  one_licence = lic;
  one_caller = call;
  once = λ j u e. ⊎_elim (λ t. subst HasEachOnce t.1 once) (λ t. r.once j u t.1) (at_set s.views id j w u e);
  known = λ place one le. ⊎_elim (λ below. again place (r.known place one below)) (λ t. record { seat = id; view = w; entry = t.0; at = at_id; has = t.1 }) (new place le);
}
  where
    at_id : get_elem? (set s.views id w) id ≡ some w
    at_id = set_here s.views id w (within_list s.views id v at)

    again : (place : ℕ) → IsKnown s.views place → IsKnown (set s.views id w) place
    again place t = dite (ℕ_discrete t.seat id)
        (λ same. record { seat = id; view = w; entry = t.entry; at = at_id; has = more (placed place t.entry) (subst (λ (u : View). Contains u.seen (placed place t.entry)) (some-injective t.view v (sym t.at ∙ ap (get_elem? s.views) same ∙ at)) t.has) })
        (λ apart. record { seat = t.seat; view = t.view; entry = t.entry; at = set_else s.views id t.seat w apart ∙ t.at; has = t.has })

word_is : (n : Named) (s : CounterState) (r : Kept n s) → slice_index s.words COUNT ≡ len r.history
word_is n s r = ap (λ ws. slice_index ws COUNT) r.word

learns_kept : (n : Named) (s : CounterState) (r : Kept n s) (id : ℕ) (v : View) → get_elem? s.views id ≡ some v → (k : ℕ) → k ≡ len r.history → (c : List (ℕ × Unit {0})) → Kept n (stepped s COUNT k id c (learned v k) keeps)
learns_kept n s r id v at k is c =
    let w = learned v k in
    moved n s r id v w at r.history r.over (λ j u _ e. r.fits j u e)
    (subst (λ m. Fits n r.history (learned v m)) (sym is) (fits_learned n r.history v (r.fits id v at)))
    (λ p has. let a = r.within id v at p has in let l = (r.fits id v at).long in omega (arith, a, l, is))
    (λ q log a. (log, a)) (one_set licences_in s.views id v w at (λ c log a. (log, a)) r.one_licence) (one_set callers_in s.views id v w at (λ c log a. (log, a)) r.one_caller) (r.once id v at)
    (λ p was. was) (λ place le. inl le) k is c

learned_lives : (n : Named) (s : CounterState) (r : Kept n s) (id : ℕ) (v : View) → get_elem? s.views id ≡ some v → (k : ℕ) → k ≡ len r.history → Lives (learned v k)
learned_lives n s r id v at k is = record {
  name = n;
  history = r.history;
  over = r.over;
  fits = subst (λ m. Fits n r.history (learned v m)) (sym is) (fits_learned n r.history v (r.fits id v at));
  within = λ p has. let a = r.within id v at p has in let l = (r.fits id v at).long in omega (arith, a, l, is);
  whole = sym is;
  once = r.once id v at;
}

-- the length is learnt
pub learns : (n : Named) (slots id : ℕ) (me : Seated) → Allows (Kept n) slots id me COUNT (λ k. k) (Learns (step slots COUNT 0 0 mathlib.Core.Option.none) me)
learns n slots id me s r _ at _ =
    let k : ℕ = slice_index s.words COUNT in
    let is : k ≡ len r.history = word_is n s r in
    let le : me.0.length ≤ k = let a = (r.fits id me.0 at).long in omega (arith, is, a) in
    (learned me.0 k, keeps, tt, learns_kept n s r id me.0 at k is me.1, (refl, le, learned_lives n s r id me.0 at k is))

once_added : (v : View) (place : ℕ) (e : Entry) → HasEachOnce v → HasEachOnce (added v place e)
once_added v place e once = subst AreDifferent (sym (numbers_extended by_caller (placed place e) v.callers)) once

adds_kept : (n : Named) (s : CounterState) (r : Kept n s) (id : ℕ) (v : View) (e : Entry) → get_elem? s.views id ≡ some v → MayAdd v e
    → (k : ℕ) → k ≡ len r.history → (c : List (ℕ × Unit {0})) → Kept n (stepped s COUNT (k + 1) id c (added v (k + 1) e) keeps)
adds_kept n s r id v e at may k is c =
    let w = added v (k + 1) e in
    let f = r.fits id v at in
    let name : may.name ≡ n = f.named may.name may.named in
    let v_named : v.named ≡ Some n = may.named ∙ ap Some name in
    let mine : is_mine (is_in n.widths n.data_regions may.region) e.step ≡ true = subst (λ (m : Named). is_mine (is_in m.widths m.data_regions may.region) e.step ≡ true) name may.mine in
    moved n s r id v w at (Then r.history e) (may_lawful n r.history v e r.over f may)
    (λ j u apart is_u. fits_others n r.history e u
    (λ c log a. bool_false (by_caller c e) (λ t. apart (r.one_caller c j id (record { view = u; log = log; at = is_u; has = a })
    (record { view = v; log = may.own; at = at; has = subst (λ m. Contains v.callers (m, may.own)) (nat_eq_is e.caller c t) may.caller }))))
    (λ q log a. other_region n q may.region e mine (λ same. apart (r.one_licence q j id (record { view = u; log = log; at = is_u; has = a })
    (record { view = v; log = may.log; at = at; has = subst (λ m. Contains v.licences (m, may.log)) (sym same) may.licence }))))
    (r.fits j u is_u))
    (subst (λ m. Fits n (Then r.history e) (added v (m + 1) e)) (sym is) (fits_added n r.history e v v_named f))
    (within_added v (k + 1) e (let l = f.long in omega (arith, l, is)) (r.within id v at))
    (extended_more (in_region (regions_in v.named)) (placed (k + 1) e) v.licences)
    (one_set licences_in s.views id v w at (extended_less (in_region (regions_in v.named)) (placed (k + 1) e) v.licences) r.one_licence)
    (one_set callers_in s.views id v w at (extended_less by_caller (placed (k + 1) e) v.callers) r.one_caller)
    (once_added v (k + 1) e (r.once id v at))
    (λ p was. there (placed (k + 1) e) p v.seen was)
    (λ place le. dite (ℕ_discrete place (k + 1))
    (λ last. inr (e, subst (λ m. Contains (placed (k + 1) e ∷ v.seen) (placed m e)) (sym last) (here (placed (k + 1) e) v.seen)))
    (λ below. inl (omega (arith, below, le, is))))
    (k + 1) (ap (λ m. m + 1) is) c

-- an entry is added
pub adds : (n : Named) (slots id : ℕ) (me : Seated) (e : Entry) (old : ℕ) → MayAdd me.0 e
    → Allows (Kept n) slots id me COUNT (λ k. either (eqb k old) (old + 1) k) (Adds e (step slots COUNT old (old + 1) mathlib.Core.Option.none) me)
adds n slots id me e old may s r _ at _ =
    let k : ℕ = slice_index s.words COUNT in
    let f = r.fits id me.0 at in
    let is : k ≡ len r.history = word_is n s r in
    let le : me.0.length ≤ k = let a = f.long in omega (arith, is, a) in
    let name : may.name ≡ n = f.named may.name may.named in
    dite (ℕ_discrete k old)
    (λ hit. (
      added me.0 (k + 1) e,
      keeps,
      tt,
      subst (λ m. Kept n (stepped s COUNT m id me.1 (added me.0 (k + 1) e) keeps)) (sym (ap (λ b. either b (old + 1) k) (eq-eqb k old hit)))
          (subst (λ m. Kept n (stepped s COUNT (m + 1) id me.1 (added me.0 (k + 1) e) keeps)) hit (adds_kept n s r id me.0 e at may k is me.1)),
      (
        le,
        record {
          name = n;
          history = Then r.history e;
          over = may_lawful n r.history me.0 e r.over f may;
          fits = subst (λ m. Fits n (Then r.history e) (added me.0 (m + 1) e)) (sym is) (fits_added n r.history e me.0 (may.named ∙ ap Some name) f);
          within = within_added me.0 (k + 1) e (omega (arith, le)) (r.within id me.0 at);
          whole = ap (λ m. m + 1) (sym is);
          once = once_added me.0 (k + 1) e (r.once id me.0 at);
        },
        (λ _. refl),
        λ ne. absurd (ne hit),
      ),
    ))
    (λ miss. (
      learned me.0 k,
      keeps,
      tt,
      subst (λ m. Kept n (stepped s COUNT m id me.1 (learned me.0 k) keeps)) (sym (ap (λ b. either b (old + 1) k) (ne_eqb k old miss))) (learns_kept n s r id me.0 at k is me.1),
      (le, learned_lives n s r id me.0 at k is, (λ hit. absurd (miss hit)), λ _. refl),
    ))

pub adds_later : (n : Named) (slots id : ℕ) (me : Seated) (v : View) (e : Entry) (old : ℕ) → HasWaited v me.0 → MayAdd v e
    → Allows (Kept n) slots id me COUNT (λ k. either (eqb k old) (old + 1) k) (Adds e (step slots COUNT old (old + 1) mathlib.Core.Option.none) me)
adds_later n slots id me v e old was may = adds n slots id me e old (may_later v me.0 e was may)

-- a caller opens
opening_over : (n : Named) (h : History) → IsOver n h → IsOver n (Then h (opening (len h + 1)))
opening_over n h over = record { base = over.base; lawful = (over.lawful, record { opened = tt; may = refl }, refl) }

opening_fits : (n : Named) (h : History) (v : View) → IsOver n h → Fits n h v → Fits n (Then h (opening (len h + 1))) (opened v (len h + 1))
opening_fits n h v over f =
    let e = opening (len h + 1) in
    let p = placed (len h + 1) e in
    record {
      named = f.named;
      long = omega arith;
      seen = λ q c. at q (split p q v.seen c);
      callers = λ c log has. own c log (split (len h + 1, p ∷ []) (c, log) v.callers has);
      regions = λ r log has. licence r log (extended_back (in_region (regions_in v.named)) p v.licences r log has);
    }
  where
    -- the licence of openings has it too, the others have what they had
    licence : (r : ℕ) (log : List Placed)
        → (log0 : List Placed) × Contains v.licences (r, log0) × (log ≡ log0 ++ cond (in_region (regions_in v.named) r (opening (len h + 1))) (placed (len h + 1) (opening (len h + 1)) ∷ []) [])
        → picked (in_region n r) (Then h (opening (len h + 1))) ≡ log
    licence r log b = ap (λ xs. xs ++ cond (nat_eq r OPENINGS) (placed (len h + 1) (opening (len h + 1)) ∷ []) []) (f.regions r b.0 b.1) ∙ sym b.2

    caller_apart : (c : ℕ) (log : List Placed) → Contains v.callers (c, log) → by_caller c (opening (len h + 1)) ≡ false
    caller_apart c log has = bool_false (nat_eq (len h + 1) c) (λ t. let same = nat_eq_is (len h + 1) c t in let low = bounded h c (opening c) (f.callers c log has).opened in omega (arith, same, low))

    at : (q : Placed) → (placed (len h + 1) (opening (len h + 1)) ≡ q) ⊎ Contains v.seen q → entry_at (Then h (opening (len h + 1))) q.place ≡ Some q.entry
    at q (inl same) = subst (λ (x : Placed). entry_at (Then h (opening (len h + 1))) x.place ≡ Some x.entry) same (entry_at-last h (opening (len h + 1)))
    at q (inr c) = entry_at-more h (opening (len h + 1)) q.entry q.place (f.seen q c)

    own : (c : ℕ) (log : List Placed) → (◌≡◌ {A = Log} (len h + 1, placed (len h + 1) (opening (len h + 1)) ∷ []) (c, log)) ⊎ Contains v.callers (c, log)
        → IsLog (Then h (opening (len h + 1))) (placed (len h + 1) (opening (len h + 1)) ∷ v.seen) c log
    own c log (inl same) = subst (λ (x : Log). IsLog (Then h (opening (len h + 1))) (placed (len h + 1) (opening (len h + 1)) ∷ v.seen) x.0 x.1) same (record {
      opened = entry_at-last h (opening (len h + 1));
      all = (λ i. none_yet h over.lawful (len h + 1) (omega arith) i ++ cond (nat_eq-refl (len h + 1) i) (placed (len h + 1) (opening (len h + 1)) ∷ []) []);
      each = λ q has. elim (split (placed (len h + 1) (opening (len h + 1))) q [] has) [ inl is ↦ subst (Contains (placed (len h + 1) (opening (len h + 1)) ∷ v.seen)) is (here _ v.seen) | inr none ↦ absurd (not_in q none) ];
    })
    own c log (inr has) =
        let l = f.callers c log has in
        record {
          opened = entry_at-more h (opening (len h + 1)) (opening c) c l.opened;
          all = picked_same (by_caller c) h (opening (len h + 1)) (caller_apart c log has) ∙ l.all;
          each = λ q i. there (placed (len h + 1) (opening (len h + 1))) q v.seen (l.each q i);
        }

-- no caller of a view has a number above the history's length
caller_within : (n : Named) (s : CounterState) (r : Kept n s) (c j : ℕ) (u : View) → get_elem? s.views j ≡ some u → (log : List Placed) → Contains u.callers (c, log) → c ≤ len r.history
caller_within n s r c j u is_u log a = bounded r.history c (opening c) ((r.fits j u is_u).callers c log a).opened

once_opened : (n : Named) (s : CounterState) (r : Kept n s) (id : ℕ) (v : View) → get_elem? s.views id ≡ some v → (k : ℕ) → k ≡ len r.history → HasEachOnce (opened v (k + 1))
once_opened n s r id v at k is = different_more (k + 1) v.callers (λ log a. let low = caller_within n s r (k + 1) id v at log a in omega (arith, low, is)) (r.once id v at)

opens_kept : (n : Named) (s : CounterState) (r : Kept n s) (id : ℕ) (v : View) → get_elem? s.views id ≡ some v → HasLicence OPENINGS v
    → (k : ℕ) → k ≡ len r.history → (c : List (ℕ × Unit {0})) → Kept n (stepped s COUNT (k + 1) id c (opened v (k + 1)) keeps)
opens_kept n s r id v at has k is c =
    let w = opened v (k + 1) in
    let f = r.fits id v at in
    moved n s r id v w at (Then r.history (opening (len r.history + 1))) (opening_over n r.history r.over)
    (λ j u apart is_u. fits_others n r.history (opening (len r.history + 1)) u
    (λ c log a. bool_false (nat_eq (len r.history + 1) c) (λ t. let same = nat_eq_is (len r.history + 1) c t in let l = caller_within n s r c j u is_u log a in omega (arith, same, l)))
    (λ m log a. bool_false (nat_eq m OPENINGS) (λ t. apart (r.one_licence m j id (record { view = u; log = log; at = is_u; has = a })
    (record { view = v; log = has.0; at = at; has = subst (λ q. Contains v.licences (q, has.0)) (sym (nat_eq_is m OPENINGS t)) has.1 }))))
    (r.fits j u is_u))
    (subst (λ m. Fits n (Then r.history (opening (len r.history + 1))) (opened v (m + 1))) (sym is) (opening_fits n r.history v r.over f))
    (λ p has. elim (split (placed (k + 1) (opening (k + 1))) p v.seen has) [
      | inl same ↦ let here_is : k + 1 ≡ p.place = ap (λ (x : Placed). x.place) same in omega (arith, here_is)
      | inr was ↦ let a = r.within id v at p was in let l = f.long in omega (arith, a, l, is)
    ])
    (extended_more (in_region (regions_in v.named)) (placed (k + 1) (opening (k + 1))) v.licences)
    (one_set licences_in s.views id v w at (extended_less (in_region (regions_in v.named)) (placed (k + 1) (opening (k + 1))) v.licences) r.one_licence)
    fresh
    (once_opened n s r id v at k is)
    (λ p was. there (placed (k + 1) (opening (k + 1))) p v.seen was)
    (λ place le. dite (ℕ_discrete place (k + 1))
    (λ last. inr (opening (k + 1), subst (λ m. Contains (placed (k + 1) (opening (k + 1)) ∷ v.seen) (placed m (opening (k + 1)))) (sym last) (here (placed (k + 1) (opening (k + 1))) v.seen)))
    (λ below. inl (omega (arith, below, le, is))))
    (k + 1) (ap (λ m. m + 1) is) c
  where
    held_low : (c i : ℕ) → Holder callers_in s.views c i → c ≤ len r.history
    held_low c i h = caller_within n s r c i h.view h.at h.log h.has

    parts : (c : ℕ) → ((log : List Placed) × Contains ((k + 1, placed (k + 1) (opening (k + 1)) ∷ []) ∷ v.callers) (c, log)) → (c ≡ k + 1) ⊎ ((log : List Placed) × Contains v.callers (c, log))
    parts c t = elim (split (k + 1, placed (k + 1) (opening (k + 1)) ∷ []) (c, t.0) v.callers t.1) [ inl e ↦ inl (ap (λ (x : Log). x.0) (sym e)) | inr i ↦ inr (t.0, i) ]

    fresh : NoTwoHold callers_in (set s.views id (opened v (k + 1)))
    fresh c i j hi hj = ⊎_elim
        (λ a. ⊎_elim
        (λ b. a.0 ∙ sym b.0)
        (λ b. ⊎_elim
        (λ (new : c ≡ k + 1). let l = held_low c j b.1 in absurd (omega (arith, new, l, is)))
        (λ was. r.one_caller c i j (record { view = v; log = was.0; at = subst (λ m. get_elem? s.views m ≡ some v) (sym a.0) at; has = was.1 }) b.1)
        (parts c a.1))
        (held_set callers_in s.views id (opened v (k + 1)) c j hj))
        (λ a. ⊎_elim
        (λ b. ⊎_elim
        (λ (new : c ≡ k + 1). let l = held_low c i a.1 in absurd (omega (arith, new, l, is)))
        (λ was. r.one_caller c i j a.1 (record { view = v; log = was.0; at = subst (λ m. get_elem? s.views m ≡ some v) (sym b.0) at; has = was.1 }))
        (parts c b.1))
        (λ b. r.one_caller c i j a.1 b.1)
        (held_set callers_in s.views id (opened v (k + 1)) c j hj))
        (held_set callers_in s.views id (opened v (k + 1)) c i hi)

opens : (n : Named) (slots id : ℕ) (me : Seated) (old : ℕ) → HasLicence OPENINGS me.0 → Allows (Kept n) slots id me COUNT (λ k. either (eqb k old) (old + 1) k) (Opens (step slots COUNT old (old + 1) mathlib.Core.Option.none) me)
opens n slots id me old has s r _ at _ =
    let k : ℕ = slice_index s.words COUNT in
    let f = r.fits id me.0 at in
    let is : k ≡ len r.history = word_is n s r in
    let le : me.0.length ≤ k = let a = f.long in omega (arith, is, a) in
    dite (ℕ_discrete k old)
    (λ hit. (
      opened me.0 (k + 1),
      keeps,
      tt,
      subst (λ m. Kept n (stepped s COUNT m id me.1 (opened me.0 (k + 1)) keeps)) (sym (ap (λ b. either b (old + 1) k) (eq-eqb k old hit)))
          (subst (λ m. Kept n (stepped s COUNT (m + 1) id me.1 (opened me.0 (k + 1)) keeps)) hit (opens_kept n s r id me.0 at has k is me.1)),
      (
        le,
        record {
          name = n;
          history = Then r.history (opening (len r.history + 1));
          over = opening_over n r.history r.over;
          fits = subst (λ m. Fits n (Then r.history (opening (len r.history + 1))) (opened me.0 (m + 1))) (sym is) (opening_fits n r.history me.0 r.over f);
          within = λ p has. elim (split (placed (k + 1) (opening (k + 1))) p me.0.seen has) [
            | inl same ↦ let here_is : k + 1 ≡ p.place = ap (λ (x : Placed). x.place) same in omega (arith, here_is)
            | inr was ↦ let a = r.within id me.0 at p was in omega (arith, a, le)
          ];
          whole = ap (λ m. m + 1) (sym is);
          once = once_opened n s r id me.0 at k is;
        },
        (λ _. refl),
        λ ne. absurd (ne hit),
      ),
    ))
    (λ miss. (
      learned me.0 k,
      keeps,
      tt,
      subst (λ m. Kept n (stepped s COUNT m id me.1 (learned me.0 k) keeps)) (sym (ap (λ b. either b (old + 1) k) (ne_eqb k old miss))) (learns_kept n s r id me.0 at k is me.1),
      (le, learned_lives n s r id me.0 at k is, (λ hit. absurd (miss hit)), λ _. refl),
    ))

pub opens_later : (n : Named) (slots id : ℕ) (me : Seated) (v : View) (old : ℕ) → HasWaited v me.0 → HasLicence OPENINGS v
    → Allows (Kept n) slots id me COUNT (λ k. either (eqb k old) (old + 1) k) (Opens (step slots COUNT old (old + 1) mathlib.Core.Option.none) me)
opens_later n slots id me v old was has = opens n slots id me old (licence_later OPENINGS v me.0 was has)
