-- The rule at the start, and the first licences.
use Rattle.std.proofs.Common.{◌≡◌, ℕ, zero, suc, ◌+◌, ◌<◌, ◌≤◌, false, cond, ⊎_elim, List, [], ◌∷◌, ◌++◌, refl, sym, ap, ◌∙◌, subst, arith}
use Rattle.std.specs.Prelude.{◌-◌, ◌==◌}
use Rattle.std.specs.declared.option.Option.{Option}
use Rattle.std.specs.FinMap.{from_entries, get-from_entries, get-entries}
use mathlib.Core.Option.{some, some-injective, some-ne-none}
use lib.ListN.{get_elem?}
use Rattle.list_lemmas.proofs.BoolTests.{same_Some}
use Rattle.list_lemmas.proofs.ListMembers.{here, there, split, not_in}
use Rattle.list_lemmas.proofs.ListCuts.{joined}
use Rattle.cell_model.specs.Store.{Store, entries}
use Rattle.cell_model.specs.Sound.{IsBase}
use Rattle.cell_model.specs.History.History.{Base}
use Rattle.cell_model.proofs.CallerLemmas.{places_total, same_store}
use Rattle.step_count.specs.declared.counter_rule.TheConstants.{OPENINGS}
use Rattle.step_count.specs.declared.view.Named.{Named}
use Rattle.step_count.specs.declared.view.View.{View}
use Rattle.step_count.specs.CounterRule.{Log, store_in, region_count, Fits, Within, HasEachOnce, Holder, licences_in, callers_in, words_of, Kept}
use Rattle.step_count.specs.ViewSteps.{without, only, without_licence, licence_alone, HasLicence}
use Rattle.step_count.specs.FirstViews.{named, unused, holding, opener, first_of, unused_licences}
use Rattle.step_count.proofs.LogLists.{unused_empty, in_unused, other_number, without_first, only_first}
use Rattle.step_count.proofs.CallerNumbers.{none_different}

-- the store that its entries tell
pub store_told : (s : Store) → record { widths = s.widths; cells = from_entries (entries s) } ≡ s
store_told s = same_store (record { widths = s.widths; cells = from_entries (entries s) }) s refl (λ q. get-from_entries places_total (entries s) q ∙ sym (get-entries s.cells q))

-- the rule at the start
pub starts : (n : Named) → IsBase (store_in n) → Kept n record { words = words_of 0; homes = []; views = first_of n ∷ [] }
starts n base = record {
  history = Base (store_in n);
  word = refl;
  over = record { base = refl; lawful = base };
  fits = λ i v e. at i v e;
  within = λ i v e. only_within i v e;
  licences = λ q lt. (0, record { view = first_of n; log = []; at = refl; has = there (OPENINGS, []) (q, []) (unused 0 (region_count n)) (in_unused 0 (region_count n) q (omega arith) (omega (arith, lt))) });
  one_licence = λ c i j hi hj. first licences_in c i hi ∙ sym (first licences_in c j hj);
  one_caller = λ c i j hi hj. first callers_in c i hi ∙ sym (first callers_in c j hj);
  once = λ i v e. only_once i v e;
  known = λ place one le. absurd (omega (arith, one, le));
}
  where
    mine : Fits n (Base (store_in n)) (first_of n)
    mine = record { named = λ b e. same_Some b n (sym e); long = omega arith; seen = λ p c. absurd (not_in p c); callers = λ c log a. absurd (not_in (c, log) a); regions = λ r log a. ⊎_elim (λ (e : ◌≡◌ {A = Log} (OPENINGS, []) (r, log)). ap (λ (x : Log). x.1) e) (unused_empty 0 (region_count n) r log) (split (OPENINGS, []) (r, log) (unused 0 (region_count n)) a) }

    at : (i : ℕ) (v : View) → get_elem? (first_of n ∷ []) i ≡ some v → Fits n (Base (store_in n)) v
    at zero v e = subst (Fits n (Base (store_in n))) (some-injective _ _ e) mine
    at (suc i) v e = absurd (some-ne-none v (sym e))

    only_within : (i : ℕ) (v : View) → get_elem? (first_of n ∷ []) i ≡ some v → Within v
    only_within zero v e = subst Within (some-injective _ _ e) (λ p c. absurd (not_in p c))
    only_within (suc i) v e = absurd (some-ne-none v (sym e))

    only_once : (i : ℕ) (v : View) → get_elem? (first_of n ∷ []) i ≡ some v → HasEachOnce v
    only_once zero v e = subst HasEachOnce (some-injective _ _ e) none_different
    only_once (suc i) v e = absurd (some-ne-none v (sym e))

    first : (f : View → List Log) (c i : ℕ) → Holder f (first_of n ∷ []) c i → i ≡ 0
    first f c zero h = refl
    first f c (suc i) h = absurd (some-ne-none h.view (sym h.at))

pub starts_named : (s : Store) (D : ℕ) (n : Named) → n ≡ named s D → IsBase s → Kept n record { words = words_of 0; homes = []; views = first_of n ∷ [] }
starts_named s D n is base = starts n (subst IsBase (sym (ap store_in is ∙ store_told s)) base)

-- the next licence leaves the first seat, which keeps that of openings
pub next_leaves : (name : Option Named) (k regions : ℕ) (v : View) → regions ≤ OPENINGS → k < regions → v ≡ opener name k (regions - k)
    → HasLicence k v × (without_licence k v ≡ opener name (k + 1) (regions - (k + 1))) × (licence_alone k v ≡ holding name k 1)
next_leaves name k regions v most lt is =
    let rest = regions - (k + 1) in
    let next : regions - k ≡ suc rest = omega (arith, lt) in
    let other : (OPENINGS == k) ≡ false = other_number OPENINGS k (omega (arith, most, lt)) in
    subst (λ (x : View). HasLicence k x × (without_licence k x ≡ opener name (k + 1) rest) × (licence_alone k x ≡ holding name k 1)) (sym (is ∙ ap (opener name k) next)) (
      ([], there (OPENINGS, []) (k, []) (unused k (suc rest)) (here (k, []) (unused (k + 1) rest))),
      ap (λ (ls : List Log). record { named = name; length = 0; seen = []; callers = []; licences = ls })
          (ap (λ b. cond b (without k (unused k (suc rest))) ((OPENINGS, []) ∷ without k (unused k (suc rest)))) other ∙ ap (λ (ls : List Log). (OPENINGS, []) ∷ ls) (without_first k rest)),
      ap (λ (ls : List Log). record { named = name; length = 0; seen = []; callers = []; licences = ls })
          (ap (λ b. cond b ((OPENINGS, []) ∷ only k (unused k (suc rest))) (only k (unused k (suc rest)))) other ∙ only_first k rest),
    )

pub next_licence : (name : Option Named) (k regions : ℕ) (done : List View) (licence : View) (all : List View) → k < regions → licence ≡ holding name k 1 → done ++ unused_licences name k (regions - k) ≡ all
    → (done ++ licence ∷ []) ++ unused_licences name (k + 1) (regions - (k + 1)) ≡ all
next_licence name k regions done licence all lt is so_far =
    let next : regions - k ≡ suc (regions - (k + 1)) = omega (arith, lt) in
    joined done (licence ∷ []) (unused_licences name (k + 1) (regions - (k + 1)))
    ∙ ap (λ (l : View). done ++ l ∷ unused_licences name (k + 1) (regions - (k + 1))) is
    ∙ ap (λ m. done ++ unused_licences name k m) (sym next)
    ∙ so_far
