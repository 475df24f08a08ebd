-- What a pass has seen, as rows are seen.
use Rattle.std.proofs.Common.{◌≡◌, ◌⊎◌, inl, inr, ℕ, ◌≤◌, true, false, List, ◌∷◌, map, sym, ap, ◌∙◌, subst}
use Rattle.std.specs.Prelude.{Some, Contains}
use Rattle.cell_model.specs.declared.events.Placed.{Placed}
use Rattle.cell_model.specs.History.{History}
use Rattle.cell_model.specs.Seen as seen
use Rattle.cell_model.specs.Seen.{IsPossible}
use Rattle.cell_model.specs.Deeds.{placed}
use Rattle.step_count.specs.declared.view.Named.{Named}
use Rattle.step_count.specs.declared.view.View.{View}
use Rattle.step_count.specs.CounterRule.{Log, by_caller, IsOver, Fits}
use Rattle.step_count.specs.ViewSteps.{Lives}
use Rattle.region_locks.specs.CallerViews.{head_of, rest_of, base_in, seen_of, IsCaller}
use Rattle.region_locks.proofs.Lower.{nat_eq-refl, here, there, map_in, picked_has}

-- a number of one's own has a log
pub own_in : (ls : List Log) (first : Log) (others : List Log) → ls ≡ first ∷ others → (c : ℕ) → (c ≡ head_of ls) ⊎ Contains (rest_of ls) c → (log : List Placed) × Contains ls (c, log)
own_in ls first others is c own = subst (λ (xs : List Log). (c ≡ head_of xs) ⊎ Contains (rest_of xs) c → (log : List Placed) × Contains xs (c, log)) (sym is) go own
  where
    go : (c ≡ first.0) ⊎ Contains (map (λ (l : Log). l.0) others) c → (log : List Placed) × Contains (first ∷ others) (c, log)
    go (inl e) = (first.1, subst (λ k. Contains (first ∷ others) (k, first.1)) (sym e) (here first others))
    go (inr i) = let w = map_in (λ (l : Log). l.0) others c i in (w.0.1, there first (c, w.0.1) others (subst (λ k. Contains others (k, w.0.1)) w.2 w.1))

-- what fits the view fits what was seen
pub fits_seen : (n : Named) (h : History) (v : View) (first : Log) (others : List Log) → v.callers ≡ first ∷ others → v.named ≡ Some n → IsOver n h → Fits n h v → seen.Fits (seen_of v) h
fits_seen n h v first others is named over f = record {
  base = over.base ∙ sym (ap base_in named);
  long = f.long;
  seen = λ place e saw. f.seen (placed place e) saw.1;
  no_other = λ place e le own at.
      let w = own_in v.callers first others is e.caller own in
      let l = f.callers e.caller w.0 w.1 in
      (le, l.each (placed place e) (subst (λ (xs : List Placed). Contains xs (placed place e)) l.all (picked_has (by_caller e.caller) h place e at (nat_eq-refl e.caller))));
}

false≠true : false ≡ true → ⊥
false≠true e = cc

pub possible_seen : (name : Named) (v : View) (first : Log) (others : List Log) → v.callers ≡ first ∷ others → v.named ≡ Some name → Lives v → IsPossible (seen_of v)
possible_seen name v first others is named l =
    let same : name ≡ l.name = l.fits.named name named in
    record {
      history = l.history;
      lawful = l.over.lawful;
      fits = fits_seen l.name l.history v first others is (named ∙ ap Some same) l.over l.fits;
      whole = λ a. absurd (false≠true a);
    }

pub possible : (name : Named) (v : View) → IsCaller name v → IsPossible (seen_of v)
possible name v c = possible_seen name v c.first c.others c.callers c.named c.live

-- an own entry was seen, within the length
pub own_seen : (v : View) → Lives v → (c : ℕ) (log : List Placed) → Contains v.callers (c, log) → (p : Placed) → Contains log p → (p.place ≤ v.length) × Contains v.seen p
own_seen v l c log has p i = let s = (l.fits.callers c log has).each p i in (l.within p s, s)
