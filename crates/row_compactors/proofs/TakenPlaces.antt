-- The places of workers are taken one after the other.
use Rattle.std.proofs.Common.{◌≡◌, inl, inr, ⊎_elim, ℕ, ◌+◌, List, [], ◌∷◌, ◌++◌, refl, sym, subst, ap, ◌∙◌, append_assoc, append-nil, length-append, arith}
use Rattle.std.specs.Prelude.{Contains}
use Rattle.std.proofs.lemmas.List.Elements.{Contains-append_cases, Contains-append_left, Contains-append_right}
use Rattle.list_lemmas.proofs.ListMembers.{here, there, not_in, split}
use Rattle.cell_model.specs.Seen.{Seen, IsOwn}
use Rattle.cell_model.specs.Deeds.{Extends}
use Rattle.step_count.specs.CounterRule.{AreDifferent}
use Rattle.step_count.proofs.CallerLemmas.{none_different, one_different, different_among}
use Rattle.region_locks.specs.CallerViews.{MadeNoMore, numbers_of}
use Rattle.row_compactors.specs.Upkeep.{BroughtNothing, TakesPlaces}

-- a number of a caller is its own
own_number : (s : Seen) (number : ℕ) → Contains (numbers_of s) number → IsOwn s number
own_number s number has = ⊎_elim (λ (is : s.caller ≡ number). inl (sym is)) (λ i. inr i) (split s.caller number s.absorbed has)

-- what was brought up to one length is all up to a later one, where none was made meanwhile
nothing_later : (s s' : Seen) (number : ℕ) → Extends s s' → MadeNoMore s s' → IsOwn s number → BroughtNothing s number → BroughtNothing s' number
nothing_later s s' number later made mine nothing h law fits place e le own at =
    let saw = made h fits place e le (subst (IsOwn s) (sym own) mine) at in
    nothing h law (later.fits h fits) place e saw.0 own at

-- nobody's place was taken
pub no_places : (s : Seen) → TakesPlaces s 0 s
no_places s = record {
  later = record { base = refl; length = omega arith; kept = λ place e saw. saw; fits = λ h fits. fits };
  made = λ h fits place e le own at. fits.no_other place e le own at;
  caller = refl;
  behind = [];
  numbers = sym (append-nil (numbers_of s));
  callers = [];
  count_is = refl;
  different = none_different;
  among = λ number has. has;
  nothing_new = λ number has. absurd (not_in number has);
}

-- one worker's place was
pub one_place : (s w s' : Seen) → Extends s s' → Extends w s' → MadeNoMore s s' → MadeNoMore w s' → s'.caller ≡ s.caller → numbers_of s' ≡ numbers_of s ++ numbers_of w → BroughtNothing w w.caller → TakesPlaces s 1 s'
one_place s w s' later theirs made theirs_made same numbers nothing = record {
  later = later;
  made = made;
  caller = same;
  behind = numbers_of w;
  numbers = numbers;
  callers = w.caller ∷ [];
  count_is = refl;
  different = one_different w.caller;
  among = λ number has. ⊎_elim (λ (is : w.caller ≡ number). subst (Contains (numbers_of w)) is (here w.caller w.absorbed)) (λ i. absurd (not_in number i)) (split w.caller number [] has);
  nothing_new = λ number has. ⊎_elim (λ (is : w.caller ≡ number). subst (BroughtNothing s') is (nothing_later w s' w.caller theirs theirs_made (inl refl) nothing)) (λ i. absurd (not_in number i)) (split w.caller number [] has);
}

-- some places, and then more
pub more_places : (s t u : Seen) (n m : ℕ) → AreDifferent (numbers_of u) → TakesPlaces s n t → TakesPlaces t m u → TakesPlaces s (n + m) u
more_places s t u n m apart first then_ = record {
  later = record {
    base = then_.later.base ∙ first.later.base;
    length = let a = first.later.length in let b = then_.later.length in omega (arith, a, b);
    kept = λ place e saw. then_.later.kept place e (first.later.kept place e saw);
    fits = λ h fits. first.later.fits h (then_.later.fits h fits);
  };
  made = λ h fits place e le own at.
      let mine = own_again e.caller own in
      let saw = then_.made h fits place e le mine at in
      first.made h (then_.later.fits h fits) place e saw.0 own at;
  caller = then_.caller ∙ first.caller;
  behind = first.behind ++ then_.behind;
  numbers = parts;
  callers = first.callers ++ then_.callers;
  count_is = length-append first.callers then_.callers ∙ (λ i. first.count_is i + then_.count_is i);
  different = different_among (numbers_of t) then_.behind first.callers then_.callers (subst AreDifferent then_.numbers apart) first.different then_.different (λ number has. in_t number has) then_.among;
  among = λ number has. ⊎_elim
      (λ i. Contains-append_left first.behind then_.behind number (first.among number i))
      (λ i. Contains-append_right first.behind then_.behind number (then_.among number i))
      (Contains-append_cases first.callers then_.callers number has);
  nothing_new = λ number has. ⊎_elim
      (λ i. nothing_later t u number then_.later then_.made (own_number t number (in_t number i)) (first.nothing_new number i))
      (λ i. then_.nothing_new number i)
      (Contains-append_cases first.callers then_.callers number has);
}
  where
    parts : numbers_of u ≡ numbers_of s ++ (first.behind ++ then_.behind)
    parts = then_.numbers ∙ ap (λ l. l ++ then_.behind) first.numbers ∙ append_assoc (numbers_of s) first.behind then_.behind

    in_t : (number : ℕ) → Contains first.callers number → Contains (numbers_of t) number
    in_t number has = subst (λ (l : List ℕ). Contains l number) (sym first.numbers) (Contains-append_right (numbers_of s) first.behind number (first.among number has))

    own_in : (number : ℕ) → IsOwn s number → Contains (numbers_of s) number
    own_in number (inl is) = subst (Contains (numbers_of s)) (sym is) (here s.caller s.absorbed)
    own_in number (inr i) = there s.caller number s.absorbed i

    own_again : (number : ℕ) → IsOwn s number → IsOwn t number
    own_again number own = own_number t number (subst (λ (l : List ℕ). Contains l number) (sym first.numbers) (Contains-append_left (numbers_of s) first.behind number (own_in number own)))
