-- The points of a group, as they are found time by time.
use Rattle.std.proofs.Common.{◌≡◌, ℕ, ◌+◌, ◌<◌, ◌≤◌, ◌^◌, ◌-◌, ℤ, Bool, true, false, cond, ◌||◌, eqb, List, [], ◌∷◌, ◌++◌, length, get_or, Option, None, Some, Ok, Err, is_some, refl, sym, ap, subst, ◌∙◌, ⊎_elim, All, arith}
use Rattle.std.specs.List.{find, filter_map, cons_option}
use Rattle.std.proofs.lemmas.Bool.{eqb-true, ne_eqb, eq-eqb, cases_Bool, cases_lt, cases_order, cond-true, cond-false, false≢true}
use Rattle.std.proofs.lemmas.Option.{none-some, same_Some}
use Rattle.std.proofs.lemmas.List.Elements.{All-push}
use Rattle.std.proofs.lemmas.List.Quantifiers.{all_pairs_push}
use Rattle.tsd_base.specs.declared.kinds.Aggregator.{Aggregator}
use Rattle.tsd_base.specs.Dots.{IsRising}
use Rattle.lerp_aggregate.specs.declared.cursors.Walk.{Walk}
use Rattle.lerp_aggregate.specs.declared.tally.Tally.{Tally}
use Rattle.lerp_aggregate.specs.Aggregation.{value_at, given_at, value_or_between, interpolates, values_at, combined, overflows, points_of, points_unless, aggregated}
use Rattle.lerp_aggregate.specs.Tally.{Counts, Adds, HasRoom, made_of}
use Rattle.lerp_aggregate.specs.Walks.{next_of, walked, StandAt}
use Rattle.lerp_aggregate.proofs.Rising.{Rises-from_rising, find_first}
use Rattle.lerp_aggregate.proofs.Same.{has_time, wanted_at, points_are, Rises-points_of, value_at-points_of}
use Rattle.lerp_aggregate.proofs.Standing.{absent, Late, Precedes}
use Rattle.lerp_aggregate.proofs.Walking.{late, onward, none_before_next, some_at_next, next_limited, length-filter_map}

-- the test of a point
abbrev pub is_over : Aggregator → ℕ × ℤ → Bool
is_over how point = overflows how point.1

-- the points found are all, and none is too large
pub found_all : (how : Aggregator) (group : List (List (ℕ × ℤ))) (dots : List (ℕ × ℤ)) → IsRising dots → ((t : ℕ) → value_at dots t ≡ wanted_at how group t) → find (is_over how) dots ≡ None → aggregated how group ≡ Ok dots
found_all how group dots rising same none =
    ap (λ points. points_unless (find (is_over how) points) points) (sym (points_are how group dots (Rises-from_rising dots rising) same)) ∙ ap (λ o. points_unless o dots) none

-- at this time one is too large, and at none before
pub found_large : (how : Aggregator) (group : List (List (ℕ × ℤ))) (t : ℕ) (v : ℤ) → wanted_at how group t ≡ Some v → overflows how v ≡ true → ((u : ℕ) (w : ℤ) → u < t → wanted_at how group u ≡ Some w → overflows how w ≡ false) → aggregated how group ≡ Err t
found_large how group t v here large before =
    ap (λ o. points_unless o (points_of how group))
    (find_first (is_over how) (points_of how group) t v (Rises-points_of how group) (value_at-points_of how group t ∙ here) large (λ u w less at. before u w less (sym (value_at-points_of how group u) ∙ at)))

-- no point passes a test that none is found for
pub find-none : (test : ℕ × ℤ → Bool) (dots : List (ℕ × ℤ)) (u : ℕ) (w : ℤ) → find test dots ≡ None → value_at dots u ≡ Some w → test (u, w) ≡ false
find-none test [] u w none at = absurd (none-some w at)
find-none test (p ∷ dots) u w none at =
    ⊎_elim
    (λ (pass : test p ≡ true). absurd (none-some p (sym none ∙ cond-true _ _ _ pass)))
    (λ (fail : test p ≡ false). ⊎_elim
    (λ (e : eqb u p.0 ≡ true). let value : p.1 ≡ w = same_Some _ _ (sym (cond-true _ _ _ e) ∙ at) in ap test (λ i. (eqb-true u p.0 e i, sym value i)) ∙ fail)
    (λ (e : eqb u p.0 ≡ false). find-none test dots u w (sym (cond-false _ _ _ fail) ∙ none) (sym (cond-false _ _ _ e) ∙ at))
    (cases_Bool (eqb u p.0)))
    (cases_Bool (test p))

pub find-none_push : (test : ℕ × ℤ → Bool) (dots : List (ℕ × ℤ)) (p : ℕ × ℤ) → find test dots ≡ None → test p ≡ false → find test (dots ++ p ∷ []) ≡ None
find-none_push test [] p none fail = cond-false _ _ _ fail
find-none_push test (q ∷ dots) p none fail =
    ⊎_elim
    (λ (pass : test q ≡ true). absurd (none-some q (sym none ∙ cond-true _ _ _ pass)))
    (λ (no_ : test q ≡ false). cond-false _ _ _ no_ ∙ find-none_push test dots p (sym (cond-false _ _ _ no_) ∙ none) fail)
    (cases_Bool (test q))

-- a point behind the others
value_at-push : (xs : List (ℕ × ℤ)) (d : ℕ × ℤ) (u : ℕ) → value_at xs u ≡ None → value_at (xs ++ d ∷ []) u ≡ value_at (d ∷ []) u
value_at-push [] d u none = refl
value_at-push (x ∷ xs) d u none =
    ⊎_elim
    (λ (e : eqb u x.0 ≡ true). absurd (none-some x.1 (sym none ∙ cond-true _ _ _ e)))
    (λ (e : eqb u x.0 ≡ false). cond-false _ _ _ e ∙ value_at-push xs d u (sym (cond-false _ _ _ e) ∙ none))
    (cases_Bool (eqb u x.0))

value_at-kept : (xs : List (ℕ × ℤ)) (d : ℕ × ℤ) (u : ℕ) → (u ≡ d.0 → ⊥) → value_at (xs ++ d ∷ []) u ≡ value_at xs u
value_at-kept [] d u apart = cond-false _ _ _ (ne_eqb u d.0 apart)
value_at-kept (x ∷ xs) d u apart = ap (cond (eqb u x.0) (Some x.1)) (value_at-kept xs d u apart)

-- some value is given where some series has one
given_some : (c : Bool) (series : List (ℕ × ℤ)) (t : ℕ) → is_some (value_at series t) ≡ true → is_some (given_at c series t) ≡ true
given_some true series t some =
    elim (value_at series t) as (λ o. is_some o ≡ true → is_some (value_or_between o series t) ≡ true) [
      | None ↦ λ h. absurd (false≢true h)
      | Some v ↦ λ h. refl
    ] some
given_some false series t some = some

pub some_values : (c : Bool) (group : List (List (ℕ × ℤ))) (t : ℕ) → has_time group t ≡ true → 0 < length (filter_map (λ series. given_at c series t) group)
some_values c [] t has = absurd (false≢true has)
some_values c (series ∷ group) t has =
    let rest = filter_map (λ (s : List (ℕ × ℤ)). given_at c s t) group in
    ⊎_elim
    (λ (here : is_some (value_at series t) ≡ true). counted (given_at c series t) rest (given_some c series t here))
    (λ (none : is_some (value_at series t) ≡ false). longer (given_at c series t) rest (some_values c group t (sym (ap (λ b. b || has_time group t) none) ∙ has)))
    (cases_Bool (is_some (value_at series t))) where
      counted : (o : Option ℤ) (rest : List ℤ) → is_some o ≡ true → 0 < length (cons_option o rest)
      counted None rest h = absurd (false≢true h)
      counted (Some v) rest h = omega arith

      longer : (o : Option ℤ) (rest : List ℤ) → 0 < length rest → 0 < length (cons_option o rest)
      longer None rest h = h
      longer (Some v) rest h = omega arith

-- what a tally makes of the values
pub made_none : (b : Bool) (z : ℤ) → cond b None (Some z) ≡ None → b ≡ true
made_none true z e = refl
made_none false z e = absurd (none-some z (sym e))

pub made_some : (b : Bool) (z v : ℤ) → cond b None (Some z) ≡ Some v → (b ≡ false) × (z ≡ v)
made_some true z v e = absurd (none-some v e)
made_some false z v e = (refl, same_Some _ _ e)

-- what is found before time T of a walk over a group
pub record Found (how : Aggregator) (group : List (List (ℕ × ℤ))) (walk : Walk) (dots : List (ℕ × ℤ)) (T : ℕ) : Type 0 where
  pub stand : StandAt group T walk
  pub all : walked group walk ≡ group
  pub rising : IsRising dots
  pub early : All (λ dot. dot.0 < T) dots
  pub same : (u : ℕ) → u < T → value_at dots u ≡ wanted_at how group u
  pub fit : find (is_over how) dots ≡ None

module _ (how : Aggregator) (group : List (List (ℕ × ℤ))) (walk : Walk) (dots : List (ℕ × ℤ)) (T : ℕ) (found : Found how group walk dots T) where
  not_yet : (u : ℕ) → T ≤ u → value_at dots u ≡ None
  not_yet u on_or_after = absent dots u (λ k d inside e. let b : (get_or dots k d).0 < T = found.early k d inside in omega (arith, b, e, on_or_after))

  none_wanted : (u : ℕ) → T ≤ u → Precedes u (next_of walk) → wanted_at how group u ≡ None
  none_wanted u on_or_after before =
      ap (λ b. cond b (Some (combined how (values_at how group u))) None) (sym (ap (λ g. has_time g u) found.all) ∙ none_before_next group T u walk on_or_after found.stand before)

  -- nothing is left
  pub at_end : next_of walk ≡ None → aggregated how group ≡ Ok dots
  at_end none = found_all how group dots found.rising (λ t. ⊎_elim
      (λ (less : t < T). found.same t less)
      (λ (more : T ≤ t). not_yet t more ∙ sym (none_wanted t more (subst (Precedes t) (sym none) tt)))
      (cases_lt t T)) found.fit

  -- at the next time
  module _ (t : ℕ) (next : next_of walk ≡ Some t) where
    pub on_or_after : T ≤ t
    on_or_after = subst (Late T) next (late group T walk found.stand)

    pub stand_here : StandAt group t walk
    stand_here = onward group T t walk on_or_after found.stand (subst (Late t) (sym next) (omega arith))

    has : has_time group t ≡ true
    has = sym (ap (λ g. has_time g t) found.all) ∙ some_at_next group t walk stand_here next

    wanted : wanted_at how group t ≡ Some (combined how (values_at how group t))
    wanted = cond-true _ _ _ has

    before : (u : ℕ) → u < t → value_at dots u ≡ wanted_at how group u
    before u less =
        ⊎_elim
        (λ (early : u < T). found.same u early)
        (λ (more : T ≤ u). not_yet u more ∙ sym (none_wanted u more (subst (Precedes u) (sym next) less)))
        (cases_lt u T)

    pub is_limited : All (λ series. All (λ p. p.0 < 2 ^ 43) series) group → t < 2 ^ 43
    is_limited limit = next_limited group T t walk limit found.stand next

    -- the tally of the values given there
    module _ (old tally : Tally) (c : Bool) (c_is : c ≡ interpolates how) (start : Counts old []) (adds : Adds old tally (filter_map (λ series. given_at c series t) (walked group walk))) (small : length group < 2 ^ 63) where
      pub counts : Counts tally (values_at how group t)
      counts = subst (Counts tally) (λ i. filter_map (λ (series : List (ℕ × ℤ)). given_at (c_is i) series t) (found.all i)) (adds.adds [] start)

      pub counts_some : 0 < tally.count
      counts_some = let some = some_values (interpolates how) group t has in let count = counts.count in omega (arith, some, count)

      pub has_room : HasRoom tally 0
      has_room = record { values = values_at how group t; counts = counts; few = (let fewer = length-filter_map (λ (series : List (ℕ × ℤ)). given_at (interpolates how) series t) group in omega (arith, fewer, small)) }

      pub too_large : made_of how (values_at how group t) ≡ None → aggregated how group ≡ Err t
      too_large none =
          found_large how group t (combined how (values_at how group t)) wanted (made_none _ _ none)
          (λ u w less at. find-none (is_over how) dots u w found.fit (before u less ∙ at))

    pub more_found : (v : ℤ) (new : Walk) (all : walked group new ≡ walked group walk) → StandAt group (t + 1) new → made_of how (values_at how group t) ≡ Some v → Found how group new (dots ++ (t, v) ∷ []) (t + 1)
    more_found v new all stand made =
        let both = made_some _ _ _ made in
        record {
          stand = stand;
          all = all ∙ found.all;
          rising = all_pairs_push (λ p q. p.0 < q.0) dots (t, v) found.rising (λ k d inside. let b : (get_or dots k d).0 < T = found.early k d inside in let on = on_or_after in omega (arith, b, on));
          early = All-push (λ (dot : ℕ × ℤ). dot.0 < t + 1) dots (t, v) (λ k d inside. let b : (get_or dots k d).0 < T = found.early k d inside in let on = on_or_after in omega (arith, b, on)) (omega arith);
          same = λ u less. ⊎_elim
              (λ (e : u ≡ t). value_at-push dots (t, v) u (not_yet u (let on = on_or_after in omega (arith, e, on))) ∙ cond-true _ _ _ (eq-eqb u t e) ∙ ap Some (sym both.1) ∙ sym wanted ∙ ap (wanted_at how group) (sym e))
              (λ apart. ⊎_elim
              (λ (below : u < t). value_at-kept dots (t, v) u (λ e. omega (arith, e, below)) ∙ before u below)
              (λ (above : t < u). absurd (omega (arith, above, less)))
              apart)
              (cases_order u t);
          fit = find-none_push (is_over how) dots (t, v) found.fit (ap (overflows how) (sym both.1) ∙ both.0);
        }

-- no series make no points
pub of_no_series : (how : Aggregator) (group : List (List (ℕ × ℤ))) (dots : List (ℕ × ℤ)) → length group ≡ 0 → dots ≡ [] → aggregated how group ≡ Ok dots
of_no_series how [] dots none is = found_all how [] [] (λ i j d before inside. absurd (omega (arith, inside))) (λ t. refl) refl ∙ ap Ok (sym is)
of_no_series how (series ∷ group) dots none is = absurd (omega (arith, none))

-- the milliseconds from a time to the limit
abbrev pub left_of : Option ℕ → ℕ
left_of None = 0
left_of (Some time) = 2 ^ 43 - time

-- are fewer for a later time
pub left_of-later : (t : ℕ) (old new : Option ℕ) → t < 2 ^ 43 → old ≡ Some t → Late (t + 1) new → left_of new < left_of old
left_of-later t old None limit is later = let same = ap left_of is in omega (arith, same, limit)
left_of-later t old (Some u) limit is later = let same = ap left_of is in omega (arith, same, limit, later)
