-- The steps on seats keep the rule: a note, a licence or callers that leave, and two that come together.
use Rattle.std.proofs.Common.{◌≡◌, ◌≢◌, ◌⊎◌, inl, inr, ℕ, zero, suc, List, [], ◌∷◌, ◌++◌, length, set, refl, sym, ap, ◌∙◌, subst, ⊎_elim, arith}
use Rattle.std.specs.Prelude.{Some, None, Contains}
use Rattle.std.specs.declared.option.Option.{Option}
use Rattle.std.proofs.lemmas.List.Elements.{Contains-append_cases, Contains-append_left, Contains-append_right}
use mathlib.Core.Option.{some, some-injective, some-ne-none}
use mathlib.Core.Logic.{dite}
use native.Mathlib.Decide.{ℕ_discrete}
use lib.ListN.{get_elem?}
use Rattle.atomic_table.specs.Table.{Splits, Joins}
use Rattle.atomic_table.proofs.Lists.{at_set, at_snoc, at_longer, at_last, set_again, set_here, set_else}
use Rattle.list_lemmas.proofs.BoolTests.{same_Some}
use Rattle.list_lemmas.proofs.ListMembers.{not_in}
use Rattle.cell_model.specs.declared.events.Placed.{Placed}
use Rattle.cell_model.specs.Deeds.{placed}
use Rattle.step_count.specs.declared.view.Named.{Named}
use Rattle.step_count.specs.declared.view.View.{View}
use Rattle.step_count.specs.CounterRule.{Log, Fits, Within, HasEachOnce, Holder, IsHeld, NoTwoHold, IsKnown, licences_in, callers_in, Kept}
use Rattle.step_count.specs.ViewSteps.{Seated, blank, noted, first_named, met, only, without_licence, licence_alone, without_callers, callers_alone, HasLicence}
use Rattle.step_count.proofs.LogLists.{in_without, in_only, to_without, to_only}
use Rattle.step_count.proofs.CallerNumbers.{none_different, different_both}
use Rattle.step_count.proofs.Holders.{CounterState, held_set, one_set, still_held, longer_held, within_list}

-- a new seat that has nothing
sitting : (n : Named) (s : CounterState) (r : Kept n s) (w : View) → Fits n r.history w → Within w → HasEachOnce w → ((c : ℕ) (log : List Placed) → Contains w.callers (c, log) → ⊥) → ((c : ℕ) (log : List Placed) → Contains w.licences (c, log) → ⊥)
    → Kept n record { words = s.words; homes = s.homes; views = s.views ++ w ∷ [] }
sitting n s r w mine within once off off' = record {
  history = r.history;
  word = r.word;
  over = r.over;
  fits = λ j u e. ⊎_elim (λ t. r.fits j u t) (λ t. subst (Fits n r.history) t mine) (at_snoc s.views w u j e);
  within = λ j u e. ⊎_elim (λ t. r.within j u t) (λ t. subst Within t within) (at_snoc s.views w u j e);
  licences = λ q lt. longer_held licences_in s.views w q (r.licences q lt);
  one_licence = λ c i j hi hj. r.one_licence c i j (old licences_in off' c i hi) (old licences_in off' c j hj);
  one_caller = λ c i j hi hj. r.one_caller c i j (old callers_in off c i hi) (old callers_in off c j hj);
  once = λ j u e. ⊎_elim (λ t. r.once j u t) (λ t. subst HasEachOnce t once) (at_snoc s.views w u j e);
  known = λ place one le. let t = r.known place one le in record { seat = t.seat; view = t.view; entry = t.entry; at = at_longer s.views (w ∷ []) t.seat t.view t.at; has = t.has };
}
  where
    old : (f : View → List Log) → ((c : ℕ) (log : List Placed) → Contains (f w) (c, log) → ⊥) → (c i : ℕ) → Holder f (s.views ++ w ∷ []) c i → Holder f s.views c i
    old f off c i h = ⊎_elim (λ t. record { view = h.view; log = h.log; at = t; has = h.has }) (λ t. absurd (off c h.log (subst (λ u. Contains (f u) (c, h.log)) (sym t) h.has))) (at_snoc s.views w h.view i h.at)

-- a note
pub notes : (n : Named) (id : ℕ) (v : View) → Splits (Kept n) id v v (noted v)
notes n id v s r at =
    let f = r.fits id v at in
    subst (λ vs. Kept n record { words = s.words; homes = s.homes; views = vs ++ noted v ∷ [] }) (sym (set_again s.views id v at))
    (sitting n s r (noted v) (record {
      named = f.named;
      long = f.long;
      seen = f.seen;
      callers = λ c log a. absurd (not_in (c, log) a);
      regions = λ c log a. absurd (not_in (c, log) a);
    }) (r.within id v at) none_different (λ c log a. not_in (c, log) a) (λ c log a. not_in (c, log) a))

-- a place of the longer list is the new seat's or an old one
place_in : (xs : List View) (y a : View) (i : ℕ) → get_elem? (xs ++ y ∷ []) i ≡ some a → (get_elem? xs i ≡ some a) ⊎ ((i ≡ length xs) × (y ≡ a))
place_in [] y a zero e = inr (refl, some-injective y a e)
place_in [] y a (suc i) e = absurd (some-ne-none a (sym e))
place_in (x ∷ xs) y a zero e = inl e
place_in (x ∷ xs) y a (suc i) e = ⊎_elim (λ t. inl t) (λ t. inr (ap suc t.0, t.1)) (place_in xs y a i e)

-- callers leave
pub departs : (n : Named) (id : ℕ) (v : View) → Splits (Kept n) id v (without_callers v) (callers_alone v)
departs n id v s k at = record {
  history = k.history;
  word = k.word;
  over = k.over;
  fits = λ j u e. ⊎_elim
      (λ t. ⊎_elim (λ (p : (j ≡ id) × (without_callers v ≡ u)). subst (Fits n k.history) p.1 left) (λ p. k.fits j u p.1) (at_set s.views id j (without_callers v) u t))
      (λ t. subst (Fits n k.history) t right)
      (at_snoc (set s.views id (without_callers v)) (callers_alone v) u j e);
  within = λ j u e. ⊎_elim
      (λ t. ⊎_elim (λ (p : (j ≡ id) × (without_callers v ≡ u)). subst Within p.1 (k.within id v at)) (λ p. k.within j u p.1) (at_set s.views id j (without_callers v) u t))
      (λ t. subst Within t (k.within id v at))
      (at_snoc (set s.views id (without_callers v)) (callers_alone v) u j e);
  licences = λ q lt. longer_held licences_in (set s.views id (without_callers v)) (callers_alone v) q (still_held licences_in s.views id v (without_callers v) at q (λ log a. (log, a)) (k.licences q lt));
  one_licence = λ c i j hi hj. one_set licences_in s.views id v (without_callers v) at (λ c log a. (log, a)) k.one_licence c i j (old c i hi) (old c j hj);
  one_caller = one;
  once = λ j u e. ⊎_elim
      (λ t. ⊎_elim (λ (p : (j ≡ id) × (without_callers v ≡ u)). subst HasEachOnce p.1 none_different) (λ p. k.once j u p.1) (at_set s.views id j (without_callers v) u t))
      (λ t. subst HasEachOnce t (k.once id v at))
      (at_snoc (set s.views id (without_callers v)) (callers_alone v) u j e);
  known = λ place one_le le. again place (k.known place one_le le);
}
  where
    f : Fits n k.history v
    f = k.fits id v at

    left : Fits n k.history (without_callers v)
    left = record { named = f.named; long = f.long; seen = f.seen; callers = λ c log a. absurd (not_in (c, log) a); regions = f.regions }

    right : Fits n k.history (callers_alone v)
    right = record { named = f.named; long = f.long; seen = f.seen; callers = f.callers; regions = λ c log a. absurd (not_in (c, log) a) }

    at_id : get_elem? (set s.views id (without_callers v)) id ≡ some (without_callers v)
    at_id = set_here s.views id (without_callers v) (within_list s.views id v at)

    again : (place : ℕ) → IsKnown s.views place → IsKnown (set s.views id (without_callers v) ++ callers_alone v ∷ []) place
    again place t = dite (ℕ_discrete t.seat id)
        (λ same. record {
          seat = id;
          view = without_callers v;
          entry = t.entry;
          at = at_longer (set s.views id (without_callers v)) (callers_alone v ∷ []) id (without_callers v) at_id;
          has = subst (λ (u : View). Contains u.seen (placed place t.entry)) (some-injective t.view v (sym t.at ∙ ap (get_elem? s.views) same ∙ at)) t.has;
        })
        (λ apart. record { seat = t.seat; view = t.view; entry = t.entry; at = at_longer (set s.views id (without_callers v)) (callers_alone v ∷ []) t.seat t.view (set_else s.views id t.seat (without_callers v) apart ∙ t.at); has = t.has })

    old : (c i : ℕ) → Holder licences_in (set s.views id (without_callers v) ++ callers_alone v ∷ []) c i → Holder licences_in (set s.views id (without_callers v)) c i
    old c i h = ⊎_elim (λ t. record { view = h.view; log = h.log; at = t; has = h.has }) (λ t. absurd (not_in (c, h.log) (subst (λ (u : View). Contains u.licences (c, h.log)) (sym t) h.has))) (at_snoc (set s.views id (without_callers v)) (callers_alone v) h.view i h.at)

    holds_now : (c i : ℕ) → Holder callers_in (set s.views id (without_callers v) ++ callers_alone v ∷ []) c i → ((i ≡ length (set s.views id (without_callers v))) × Holder callers_in s.views c id) ⊎ ((i ≢ id) × Holder callers_in s.views c i)
    holds_now c i h = ⊎_elim
        (λ t. ⊎_elim
        (λ (p : (i ≡ id) × (without_callers v ≡ h.view)). absurd (not_in (c, h.log) (subst (λ (u : View). Contains u.callers (c, h.log)) (sym p.1) h.has)))
        (λ (p : (i ≢ id) × (get_elem? s.views i ≡ some h.view)). inr (p.0, record { view = h.view; log = h.log; at = p.1; has = h.has }))
        (at_set s.views id i (without_callers v) h.view t))
        (λ t. inl (t.0, record { view = v; log = h.log; at = at; has = subst (λ (u : View). Contains u.callers (c, h.log)) (sym t.1) h.has }))
        (place_in (set s.views id (without_callers v)) (callers_alone v) h.view i h.at)

    one : NoTwoHold callers_in (set s.views id (without_callers v) ++ callers_alone v ∷ [])
    one c i j hi hj = ⊎_elim
        (λ a. ⊎_elim (λ b. a.0 ∙ sym b.0) (λ b. absurd (b.0 (k.one_caller c j id b.1 a.1))) (holds_now c j hj))
        (λ a. ⊎_elim (λ b. absurd (a.0 (k.one_caller c i id a.1 b.1))) (λ b. k.one_caller c i j a.1 b.1) (holds_now c j hj))
        (holds_now c i hi)

-- a licence leaves
pub gives : (n : Named) (id : ℕ) (v : View) (r : ℕ) → HasLicence r v → Splits (Kept n) id v (without_licence r v) (licence_alone r v)
gives n id v r has s k at = record {
  history = k.history;
  word = k.word;
  over = k.over;
  fits = λ j u e. ⊎_elim
      (λ t. ⊎_elim (λ (p : (j ≡ id) × (without_licence r v ≡ u)). subst (Fits n k.history) p.1 left) (λ p. k.fits j u p.1) (at_set s.views id j (without_licence r v) u t))
      (λ t. subst (Fits n k.history) t right)
      (at_snoc (set s.views id (without_licence r v)) (licence_alone r v) u j e);
  within = λ j u e. ⊎_elim
      (λ t. ⊎_elim (λ (p : (j ≡ id) × (without_licence r v ≡ u)). subst Within p.1 (k.within id v at)) (λ p. k.within j u p.1) (at_set s.views id j (without_licence r v) u t))
      (λ t. subst Within t (k.within id v at))
      (at_snoc (set s.views id (without_licence r v)) (licence_alone r v) u j e);
  licences = λ q lt. held q (k.licences q lt);
  one_licence = one;
  one_caller = λ c i j hi hj. one_set callers_in s.views id v (without_licence r v) at (λ c log a. (log, a)) k.one_caller c i j (old c i hi) (old c j hj);
  once = λ j u e. ⊎_elim
      (λ t. ⊎_elim (λ (p : (j ≡ id) × (without_licence r v ≡ u)). subst HasEachOnce p.1 (k.once id v at)) (λ p. k.once j u p.1) (at_set s.views id j (without_licence r v) u t))
      (λ t. subst HasEachOnce t none_different)
      (at_snoc (set s.views id (without_licence r v)) (licence_alone r v) u j e);
  known = λ place one le. again place (k.known place one le);
}
  where
    f : Fits n k.history v
    f = k.fits id v at

    left : Fits n k.history (without_licence r v)
    left = record { named = f.named; long = f.long; seen = f.seen; callers = f.callers; regions = λ c log a. f.regions c log (in_without r v.licences c log a).0 }

    right : Fits n k.history (licence_alone r v)
    right = record { named = f.named; long = f.long; seen = f.seen; callers = λ c log a. absurd (not_in (c, log) a); regions = λ c log a. f.regions c log (in_only r v.licences c log a).0 }

    held : (q : ℕ) → IsHeld licences_in s.views q → IsHeld licences_in (set s.views id (without_licence r v) ++ licence_alone r v ∷ []) q
    held q t = dite (ℕ_discrete q r)
        (λ same. (
          length (set s.views id (without_licence r v)),
          record {
            view = licence_alone r v;
            log = has.0;
            at = at_last (set s.views id (without_licence r v)) (licence_alone r v) (length (set s.views id (without_licence r v))) refl;
            has = subst (λ m. Contains (only r v.licences) (m, has.0)) (sym same) (to_only r v.licences has.0 has.1);
          },
        ))
        (λ apart. longer_held licences_in (set s.views id (without_licence r v)) (licence_alone r v) q
        (still_held licences_in s.views id v (without_licence r v) at q (λ log a. (log, to_without r v.licences q log apart a)) t))

    at_id : get_elem? (set s.views id (without_licence r v)) id ≡ some (without_licence r v)
    at_id = set_here s.views id (without_licence r v) (within_list s.views id v at)

    again : (place : ℕ) → IsKnown s.views place → IsKnown (set s.views id (without_licence r v) ++ licence_alone r v ∷ []) place
    again place t = dite (ℕ_discrete t.seat id)
        (λ same. record {
          seat = id;
          view = without_licence r v;
          entry = t.entry;
          at = at_longer (set s.views id (without_licence r v)) (licence_alone r v ∷ []) id (without_licence r v) at_id;
          has = subst (λ (u : View). Contains u.seen (placed place t.entry)) (some-injective t.view v (sym t.at ∙ ap (get_elem? s.views) same ∙ at)) t.has;
        })
        (λ apart. record { seat = t.seat; view = t.view; entry = t.entry; at = at_longer (set s.views id (without_licence r v)) (licence_alone r v ∷ []) t.seat t.view (set_else s.views id t.seat (without_licence r v) apart ∙ t.at); has = t.has })

    old : (c i : ℕ) → Holder callers_in (set s.views id (without_licence r v) ++ licence_alone r v ∷ []) c i → Holder callers_in (set s.views id (without_licence r v)) c i
    old c i h = ⊎_elim (λ t. record { view = h.view; log = h.log; at = t; has = h.has }) (λ t. absurd (not_in (c, h.log) (subst (λ (u : View). Contains u.callers (c, h.log)) (sym t) h.has))) (at_snoc (set s.views id (without_licence r v)) (licence_alone r v) h.view i h.at)

    holds_now : (c i : ℕ) → Holder licences_in (set s.views id (without_licence r v) ++ licence_alone r v ∷ []) c i → ((i ≡ length (set s.views id (without_licence r v))) × (c ≡ r)) ⊎ ((c ≢ r) × Holder licences_in s.views c i)
    holds_now c i h = ⊎_elim
        (λ t. ⊎_elim
        (λ (p : (i ≡ id) × (without_licence r v ≡ h.view)).
        let a = in_without r v.licences c h.log (subst (λ (u : View). Contains u.licences (c, h.log)) (sym p.1) h.has) in
        inr (a.1, record { view = v; log = h.log; at = subst (λ m. get_elem? s.views m ≡ some v) (sym p.0) at; has = a.0 }))
        (λ (p : (i ≢ id) × (get_elem? s.views i ≡ some h.view)). inr (
          (λ same. p.0 (k.one_licence c i id (record { view = h.view; log = h.log; at = p.1; has = h.has })
              (record { view = v; log = has.0; at = at; has = subst (λ m. Contains v.licences (m, has.0)) (sym same) has.1 }))),
          record { view = h.view; log = h.log; at = p.1; has = h.has },
        ))
        (at_set s.views id i (without_licence r v) h.view t))
        (λ t. inl (t.0, (in_only r v.licences c h.log (subst (λ (u : View). Contains u.licences (c, h.log)) (sym t.1) h.has)).1))
        (place_in (set s.views id (without_licence r v)) (licence_alone r v) h.view i h.at)

    one : NoTwoHold licences_in (set s.views id (without_licence r v) ++ licence_alone r v ∷ [])
    one c i j hi hj = ⊎_elim
        (λ a. ⊎_elim (λ b. a.0 ∙ sym b.0) (λ b. absurd (b.0 a.1)) (holds_now c j hj))
        (λ a. ⊎_elim (λ b. absurd (a.0 b.1)) (λ b. k.one_licence c i j a.1 b.1) (holds_now c j hj))
        (holds_now c i hi)

-- two come together
pub joins : (n : Named) (id : ℕ) (v : View) (other : ℕ) (w : View) → Joins (Kept n) id v other w (met v w) blank
joins n id v other w s r at apart there' = record {
  history = r.history;
  word = r.word;
  over = r.over;
  fits = λ j u e. ⊎_elim
      (λ (p : (j ≡ other) × (blank ≡ u)). subst (Fits n r.history) p.1 spent)
      (λ p. ⊎_elim (λ (q : (j ≡ id) × (met v w ≡ u)). subst (Fits n r.history) q.1 both) (λ q. r.fits j u q.1) (at_set s.views id j (met v w) u p.1))
      (at_set (set s.views id (met v w)) other j blank u e);
  within = λ j u e. ⊎_elim
      (λ (p : (j ≡ other) × (blank ≡ u)). subst Within p.1 (λ x c. absurd (not_in x c)))
      (λ p. ⊎_elim (λ (q : (j ≡ id) × (met v w ≡ u)). subst Within q.1 both_within) (λ q. r.within j u q.1) (at_set s.views id j (met v w) u p.1))
      (at_set (set s.views id (met v w)) other j blank u e);
  licences = λ q lt. held q (r.licences q lt);
  one_licence = one licences_in (λ c log a. a) (λ c log a. not_in (c, log) a) r.one_licence;
  one_caller = one callers_in (λ c log a. a) (λ c log a. not_in (c, log) a) r.one_caller;
  once = λ j u e. ⊎_elim
      (λ (p : (j ≡ other) × (blank ≡ u)). subst HasEachOnce p.1 none_different)
      (λ p. ⊎_elim (λ (q : (j ≡ id) × (met v w ≡ u)). subst HasEachOnce q.1 both_once) (λ q. r.once j u q.1) (at_set s.views id j (met v w) u p.1))
      (at_set (set s.views id (met v w)) other j blank u e);
  known = λ place one_le le. again place (r.known place one_le le);
}
  where
    there_w : get_elem? s.views other ≡ some w
    there_w = sym (set_else s.views id other (met v w) apart) ∙ there'

    f : Fits n r.history v
    f = r.fits id v at

    g : Fits n r.history w
    g = r.fits other w there_w

    spent : Fits n r.history blank
    spent = record { named = λ b e. none_some b e; long = omega arith; seen = λ p c. absurd (not_in p c); callers = λ c log a. absurd (not_in (c, log) a); regions = λ c log a. absurd (not_in (c, log) a) }
      where
        none_some : (b : Named) → None ≡ Some b → b ≡ n
        none_some b e = cc

    at_id : get_elem? (set (set s.views id (met v w)) other blank) id ≡ some (met v w)
    at_id = set_else (set s.views id (met v w)) other id blank (λ e. apart (sym e)) ∙ set_here s.views id (met v w) (within_list s.views id v at)

    first : (b : Named) (x : Option Named) → v.named ≡ x → first_named x w.named ≡ Some b → b ≡ n
    first b (Some c) is e = f.named b (is ∙ e)
    first b None is e = g.named b e

    both_within : Within (met v w)
    both_within p c = elim (Contains-append_cases v.seen w.seen p c) [
      | inl i ↦ let a = r.within id v at p i in omega (arith, a)
      | inr i ↦ let a = r.within other w there_w p i in omega (arith, a)
    ]

    -- a caller of both views would be held by two seats
    both_once : HasEachOnce (met v w)
    both_once = different_both v.callers w.callers
        (λ c log log' mine theirs. apart (r.one_caller c other id (record { view = w; log = log'; at = there_w; has = theirs }) (record { view = v; log = log; at = at; has = mine })))
        (r.once id v at) (r.once other w there_w)

    both : Fits n r.history (met v w)
    both = record {
      named = λ b e. first b v.named refl e;
      long = let a = f.long in let b = g.long in omega (arith, a, b);
      seen = λ p c. ⊎_elim (f.seen p) (g.seen p) (Contains-append_cases v.seen w.seen p c);
      callers = λ c log a. ⊎_elim
          (λ i. let l = f.callers c log i in record { opened = l.opened; all = l.all; each = λ p x. Contains-append_left v.seen w.seen p (l.each p x) })
          (λ i. let l = g.callers c log i in record { opened = l.opened; all = l.all; each = λ p x. Contains-append_right v.seen w.seen p (l.each p x) })
          (Contains-append_cases v.callers w.callers (c, log) a);
      regions = λ c log a. ⊎_elim (f.regions c log) (g.regions c log) (Contains-append_cases v.licences w.licences (c, log) a);
    }

    again : (place : ℕ) → IsKnown s.views place → IsKnown (set (set s.views id (met v w)) other blank) place
    again place t = dite (ℕ_discrete t.seat id)
        (λ same. record {
          seat = id;
          view = met v w;
          entry = t.entry;
          at = at_id;
          has = Contains-append_left v.seen w.seen _ (subst (λ (u : View). Contains u.seen (placed place t.entry)) (some-injective t.view v (sym t.at ∙ ap (get_elem? s.views) same ∙ at)) t.has);
        })
        (λ off. dite (ℕ_discrete t.seat other)
        (λ same. record {
          seat = id;
          view = met v w;
          entry = t.entry;
          at = at_id;
          has = Contains-append_right v.seen w.seen _ (subst (λ (u : View). Contains u.seen (placed place t.entry)) (some-injective t.view w (sym t.at ∙ ap (get_elem? s.views) same ∙ there_w)) t.has);
        })
        (λ off'. record { seat = t.seat; view = t.view; entry = t.entry; at = set_else (set s.views id (met v w)) other t.seat blank off' ∙ set_else s.views id t.seat (met v w) off ∙ t.at; has = t.has }))

    held : (q : ℕ) → IsHeld licences_in s.views q → IsHeld licences_in (set (set s.views id (met v w)) other blank) q
    held q t = dite (ℕ_discrete t.0 id)
        (λ same. (
          id,
          record {
            view = met v w;
            log = t.1.log;
            at = at_id;
            has = Contains-append_left v.licences w.licences (q, t.1.log) (subst (λ (u : View). Contains u.licences (q, t.1.log)) (some-injective t.1.view v (sym t.1.at ∙ ap (get_elem? s.views) same ∙ at)) t.1.has);
          },
        ))
        (λ off. dite (ℕ_discrete t.0 other)
        (λ same. (
          id,
          record {
            view = met v w;
            log = t.1.log;
            at = at_id;
            has = Contains-append_right v.licences w.licences (q, t.1.log) (subst (λ (u : View). Contains u.licences (q, t.1.log)) (some-injective t.1.view w (sym t.1.at ∙ ap (get_elem? s.views) same ∙ there_w)) t.1.has);
          },
        ))
        (λ off'. (t.0, record { view = t.1.view; log = t.1.log; at = set_else (set s.views id (met v w)) other t.0 blank off' ∙ set_else s.views id t.0 (met v w) off ∙ t.1.at; has = t.1.has })))

    one : (h : View → List Log) → ((c : ℕ) (log : List Placed) → Contains (h (met v w)) (c, log) → Contains (h v ++ h w) (c, log)) → ((c : ℕ) (log : List Placed) → Contains (h blank) (c, log) → ⊥)
        → NoTwoHold h s.views → NoTwoHold h (set (set s.views id (met v w)) other blank)
    one h cut off was c i j hi hj = ⊎_elim
        (λ a. ⊎_elim (λ b. a.0 ∙ sym b.0)
        (λ b. ⊎_elim (λ x. absurd (b.0 (was c j id b.2 x))) (λ x. absurd (b.1 (was c j other b.2 x))) a.1)
        (back j hj))
        (λ a. ⊎_elim
        (λ b. ⊎_elim (λ x. absurd (a.0 (was c i id a.2 x))) (λ x. absurd (a.1 (was c i other a.2 x))) b.1)
        (λ b. was c i j a.2 b.2)
        (back j hj))
        (back i hi)
      where
        back : (i : ℕ) → Holder h (set (set s.views id (met v w)) other blank) c i → ((i ≡ id) × (Holder h s.views c id ⊎ Holder h s.views c other)) ⊎ ((i ≢ id) × (i ≢ other) × Holder h s.views c i)
        back i t = ⊎_elim
            (λ (p : (i ≡ other) × ((log : List Placed) × Contains (h blank) (c, log))). absurd (off c p.1.0 p.1.1))
            (λ (p : (i ≢ other) × Holder h (set s.views id (met v w)) c i). ⊎_elim
            (λ (q : (i ≡ id) × ((log : List Placed) × Contains (h (met v w)) (c, log))). inl (
              q.0,
              ⊎_elim
                  (λ x. inl (record { view = v; log = q.1.0; at = at; has = x }))
                  (λ x. inr (record { view = w; log = q.1.0; at = there_w; has = x }))
                  (Contains-append_cases (h v) (h w) (c, q.1.0) (cut c q.1.0 q.1.1)),
            ))
            (λ (q : (i ≢ id) × Holder h s.views c i). inr (q.0, p.0, q.1))
            (held_set h s.views id (met v w) c i p.1))
            (held_set h (set s.views id (met v w)) other blank c i t)
