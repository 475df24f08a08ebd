-- The points of a group whose series have the same times, place by place.
use Rattle.std.proofs.Common.{◌≡◌, ℕ, suc, ◌+◌, ◌<◌, ◌≤◌, ◌^◌, ℤ, Bool, true, false, cond, ◌||◌, eqb, List, [], ◌∷◌, ◌++◌, length, map, take, get_or, Option, None, Some, Ok, is_some, refl, sym, ap, subst, ◌∙◌, ⊎_elim, All, append_assoc, append-nil, length-append, arith}
use Rattle.std.specs.List.{AllByRecursion, AllWithin, filter_map, cons_option, find}
use Rattle.std.proofs.lemmas.Bool.{eqb-true, cases_Bool, cases_lt, cond-true, cond-false}
use Rattle.std.proofs.lemmas.List.{take_more, take_all, length-take-le, length-take, get_or-take, get_or_default, map-append}
use Rattle.std.proofs.lemmas.List.Elements.{filter_map-append, recursion_from_All}
use Rattle.tsd_base.specs.declared.kinds.Aggregator.{Aggregator}
use Rattle.tsd_base.specs.Dots.{IsRising, IsAboveAll}
use Rattle.lerp_aggregate.specs.declared.tally.Tally.{Tally}
use Rattle.lerp_aggregate.specs.Aggregation.{value_at, given_at, interpolates, values_at, combined, overflows, points_unless, aggregated}
use Rattle.lerp_aggregate.specs.EqualTimes.{AddsAt, HaveAt}
use Rattle.lerp_aggregate.specs.Tally.{Counts, Adds, HasRoom, made_of}
use Rattle.lerp_aggregate.proofs.Finding.{is_over, find-none_push, some_values, made_some}
use Rattle.lerp_aggregate.proofs.Rising.{Rises, Rises-from_rising}
use Rattle.lerp_aggregate.proofs.Same.{has_time, wanted_at, points_are}
use Rattle.lerp_aggregate.proofs.Standing.{present, gives_here}
use Rattle.lerp_aggregate.proofs.Walking.{length-filter_map}

-- the first i series are counted
pub record Counted (group : List (List (ℕ × ℤ))) (place time : ℕ) (old : Tally) (i : ℕ) (tally : Tally) : Type 0 where
  pub within : i ≤ length group
  pub adds : AddsAt (take i group) time old tally
  pub have : AllWithin (HaveAt place time) group 0 i

pub counted_none : (group : List (List (ℕ × ℤ))) (place time : ℕ) (old : Tally) → Counted group place time old 0 old
counted_none group place time old = record {
  within = omega arith;
  adds = λ b. record { adds = λ values h. subst (Counts old) (sym (append-nil values)) h };
  have = λ k d low high. absurd (omega (arith, high));
}

module _ (group : List (List (ℕ × ℤ))) (place time : ℕ) (old : Tally) (i : ℕ) (tally : Tally) (counted : Counted group place time old i tally) where
  pub counted_room : HasRoom old (length group) → i < length group → HasRoom tally 1
  counted_room room inside =
      let given = filter_map (λ (s : List (ℕ × ℤ)). given_at true s time) (take i group) in
      let few = length-filter_map (λ (s : List (ℕ × ℤ)). given_at true s time) (take i group) in
      let count = length-take-le i group (omega (arith, inside)) in
      let small = room.few in
      record {
        values = room.values ++ given;
        counts = (counted.adds true).adds room.values room.counts;
        few = omega (arith, few, count, small, inside, length-append room.values given);
      }

  pub counted_more : (d : List (ℕ × ℤ)) (e : ℕ × ℤ) (v : ℤ) (new : Tally) → i < length group → IsRising (get_or group i d) → place < length (get_or group i d) → (get_or (get_or group i d) place e).0 ≡ time
      → v ≡ (get_or (get_or group i d) place e).1 → Adds tally new (v ∷ []) → Counted group place time old (i + 1) new
  counted_more d e v new inside rising has at value adds =
      let s = get_or group i d in
      record {
        within = omega (arith, inside);
        adds = λ b.
            let gives : List (ℕ × ℤ) → Option ℤ = λ s. given_at b s time in
            let here : given_at b s time ≡ Some v = gives_here s place rising b time e has at ∙ ap Some (sym value) in
            let more : filter_map gives (take i group) ++ v ∷ [] ≡ filter_map gives (take (i + 1) group) =
            (λ j. filter_map gives (take i group) ++ cons_option (sym here j) []) ∙ sym (filter_map-append gives (take i group) (s ∷ [])) ∙ ap (filter_map gives) (sym (take_more group i d inside)) in
            record { adds = λ values h. subst (Counts new) (append_assoc values (filter_map gives (take i group)) (v ∷ []) ∙ ap (λ l. values ++ l) more) (adds.adds (values ++ filter_map gives (take i group)) ((counted.adds b).adds values h)) };
        have = λ k d2 low high. ⊎_elim
            (λ (less : k < i). counted.have k d2 low less)
            (λ (not : i ≤ k). let same : k ≡ i = omega (arith, not, high) in subst (HaveAt place time) (get_or_default group i d d2 inside ∙ ap (λ n. get_or group n d2) (sym same)) (has, λ f. ap (λ p. p.0) (get_or_default s place f e has) ∙ at))
            (cases_lt k i);
      }

  pub counted_all : length group ≤ i → AddsAt group time old tally × All (HaveAt place time) group
  counted_all end = (
    (λ b. subst (λ l. Adds old tally (filter_map (λ s. given_at b s time) l)) (take_all i group end) (counted.adds b)),
    (λ k d inside. counted.have k d (omega arith) (omega (arith, inside, end))),
  )

-- the points at these times
abbrev pub made : Aggregator → List (List (ℕ × ℤ)) → List (ℕ × ℤ) → List (ℕ × ℤ)
made how group points = map (λ p. (p.0, combined how (values_at how group p.0))) points

-- a series has the first k times of another
abbrev pub Shares : ℕ → List (ℕ × ℤ) → List (ℕ × ℤ) → Type 0
Shares k first series = (j : ℕ) (e : ℕ × ℤ) → j < k → (get_or series j e).0 ≡ (get_or first j e).0

-- the points at the first k times
pub record Placed (how : Aggregator) (group : List (List (ℕ × ℤ))) (first : List (ℕ × ℤ)) (k : ℕ) (dots : List (ℕ × ℤ)) : Type 0 where
  pub is : dots ≡ made how group (take k first)
  pub fit : find (is_over how) dots ≡ None
  pub share : All (Shares k first) group

pub placed_none : (how : Aggregator) (group : List (List (ℕ × ℤ))) (first dots : List (ℕ × ℤ)) → dots ≡ [] → Placed how group first 0 dots
placed_none how group first dots none = record { is = none; fit = ap (find (is_over how)) none; share = λ k d inside j e lt. absurd (omega (arith, lt)) }

above_made : (f : ℕ → ℤ) (t : ℕ) (points : List (ℕ × ℤ)) → AllByRecursion (λ (q : ℕ × ℤ). t < q.0) points → AllByRecursion (λ (q : ℕ × ℤ). t < q.0) (map (λ (p : ℕ × ℤ). (p.0, f p.0)) points)
above_made f t [] h = tt
above_made f t (p ∷ points) h = (h.0, above_made f t points h.1)

below_made : (f : ℕ → ℤ) (t : ℕ) (points : List (ℕ × ℤ)) → AllByRecursion (λ (q : ℕ × ℤ). q.0 < t) points → AllByRecursion (λ (q : ℕ × ℤ). q.0 < t) (map (λ (p : ℕ × ℤ). (p.0, f p.0)) points)
below_made f t [] h = tt
below_made f t (p ∷ points) h = (h.0, below_made f t points h.1)

Rises-made : (f : ℕ → ℤ) (points : List (ℕ × ℤ)) → Rises points → Rises (map (λ (p : ℕ × ℤ). (p.0, f p.0)) points)
Rises-made f [] h = tt
Rises-made f (p ∷ points) h = (above_made f p.0 points h.0, Rises-made f points h.1)

below_take : (first : List (ℕ × ℤ)) (k : ℕ) (d : ℕ × ℤ) → IsRising first → k < length first → AllByRecursion (λ (e : ℕ × ℤ). e.0 < (get_or first k d).0) (take k first)
below_take first k d rising lt = recursion_from_All (λ (e : ℕ × ℤ). e.0 < (get_or first k d).0) (take k first) (λ j e inside.
    let few : j < k = omega (arith, inside, length-take k first) in
    let up : (get_or first j e).0 < (get_or first k e).0 = rising j k e few lt in
    let same : (get_or first k e).0 ≡ (get_or first k d).0 = ap (λ (p : ℕ × ℤ). p.0) (get_or_default first k e d lt) in
    let there : (get_or (take k first) j e).0 ≡ (get_or first j e).0 = ap (λ (p : ℕ × ℤ). p.0) (get_or-take k first j e few) in
    omega (arith, up, same, there))

made_at : (f : ℕ → ℤ) (points : List (ℕ × ℤ)) (t : ℕ) → value_at (map (λ (p : ℕ × ℤ). (p.0, f p.0)) points) t ≡ cond (is_some (value_at points t)) (Some (f t)) None
made_at f [] t = refl
made_at f (p ∷ points) t =
    let at = λ (o : Option ℤ). cond (is_some o) (Some (f t)) None in
    ⊎_elim
    (λ (a : eqb t p.0 ≡ true). cond-true _ _ _ a ∙ ap (λ k. Some (f k)) (sym (eqb-true t p.0 a)) ∙ sym (ap at (cond-true _ _ _ a)))
    (λ (b : eqb t p.0 ≡ false). cond-false _ _ _ b ∙ made_at f points t ∙ sym (ap at (cond-false _ _ _ b)))
    (cases_Bool (eqb t p.0))

same_cond : (b : Bool) (v w : ℤ) (x y : Option ℤ) → is_some x ≡ is_some y → is_some (cond b (Some v) x) ≡ is_some (cond b (Some w) y)
same_cond true v w x y e = refl
same_cond false v w x y e = e

-- a series with the times of another
same_time : (first series : List (ℕ × ℤ)) (t : ℕ) → length series ≡ length first → Shares (length first) first series → is_some (value_at series t) ≡ is_some (value_at first t)
same_time [] [] t count share = refl
same_time [] (p ∷ series) t count share = absurd (omega (arith, count))
same_time (q ∷ first) [] t count share = absurd (omega (arith, count))
same_time (q ∷ first) (p ∷ series) t count share =
    let here : p.0 ≡ q.0 = share 0 p (omega arith) in
    ap (λ n. is_some (cond (eqb t n) (Some p.1) (value_at series t))) here ∙ same_cond (eqb t q.0) p.1 q.1 (value_at series t) (value_at first t) (same_time first series t (omega (arith, count)) (λ j e lt. share (suc j) e (omega (arith, lt))))

or_same : (b : Bool) → (b || b) ≡ b
or_same true = refl
or_same false = refl

or_false : (b : Bool) → (b || false) ≡ b
or_false true = refl
or_false false = refl

same_times : (first : List (ℕ × ℤ)) (group : List (List (ℕ × ℤ))) (t : ℕ) → 0 < length group → All (λ s. length s ≡ length first) group → All (Shares (length first) first) group → has_time group t ≡ is_some (value_at first t)
same_times first [] t some counts share = absurd (omega (arith, some))
same_times first (s ∷ []) t some counts share = or_false (is_some (value_at s t)) ∙ same_time first s t (counts 0 s (omega arith)) (share 0 s (omega arith))
same_times first (s ∷ u ∷ group) t some counts share =
    let here = same_time first s t (counts 0 s (omega arith)) (share 0 s (omega arith)) in
    let rest = same_times first (u ∷ group) t (omega arith) (λ k d lt. counts (suc k) d (omega (arith, lt))) (λ k d lt. share (suc k) d (omega (arith, lt))) in
    (λ j. here j || rest j) ∙ or_same (is_some (value_at first t))

has_first : (group : List (List (ℕ × ℤ))) (t : ℕ) (v : ℤ) → 0 < length group → value_at (get_or group 0 []) t ≡ Some v → has_time group t ≡ true
has_first [] t v some here = absurd (omega (arith, some))
has_first (s ∷ group) t v some here = ap (λ o. is_some o || has_time group t) here

at_end : (j k : ℕ) → k ≤ j → j < k + 1 → j ≡ k
at_end j k low high = omega (arith, low, high)

module _ (how : Aggregator) (group : List (List (ℕ × ℤ))) (first dots : List (ℕ × ℤ)) (k : ℕ) (placed : Placed how group first k dots) (some : 0 < length group) (is_first : get_or group 0 [] ≡ first) (rising : IsRising first) where
  -- all are found
  pub placed_all : k ≡ length first → All (λ s. length s ≡ length first) group → aggregated how group ≡ Ok dots
  placed_all end counts =
      let f : ℕ → ℤ = λ t. combined how (values_at how group t) in
      let is : dots ≡ made how group first = placed.is ∙ ap (made how group) (take_all k first (omega (arith, end))) in
      let rises : Rises dots = subst Rises (sym is) (Rises-made f first (Rises-from_rising first rising)) in
      let share : All (Shares (length first) first) group = subst (λ n. All (Shares n first) group) end placed.share in
      let same : (t : ℕ) → value_at dots t ≡ wanted_at how group t = λ t. ap (λ l. value_at l t) is ∙ made_at f first t ∙ ap (λ b. cond b (Some (f t)) None) (sym (same_times first group t some counts share)) in
      ap (λ points. points_unless (find (is_over how) points) points) (sym (points_are how group dots rises same)) ∙ ap (λ o. points_unless o dots) placed.fit

  module _ (d : ℕ × ℤ) (inside : k < length first) where
    pub placed_above : (time : ℕ) → time ≡ (get_or first k d).0 → IsAboveAll time dots
    placed_above time is = subst (λ (t : ℕ). AllByRecursion (λ (e : ℕ × ℤ). e.0 < t) dots) (sym is)
        (subst (AllByRecursion (λ (e : ℕ × ℤ). e.0 < (get_or first k d).0)) (sym placed.is) (below_made (λ t. combined how (values_at how group t)) (get_or first k d).0 (take k first) (below_take first k d rising inside)))

    module _ (time : ℕ) (old tally : Tally) (is_time : time ≡ (get_or first k d).0) (start : Counts old []) (adds : AddsAt group time old tally) where
      pub counts : Counts tally (values_at how group time)
      counts = (adds (interpolates how)).adds [] start

      pub counts_some : 0 < tally.count
      counts_some =
          let here : value_at (get_or group 0 []) time ≡ Some (get_or first k d).1 = ap (λ s. value_at s time) is_first ∙ ap (value_at first) is_time ∙ present first k d rising inside in
          let more = some_values (interpolates how) group time (has_first group time (get_or first k d).1 some here) in
          let count = counts.count in
          omega (arith, more, count)

      pub has_room : length group < 2 ^ 63 → HasRoom tally 0
      has_room small = record { values = values_at how group time; counts = counts; few = (let fewer = length-filter_map (λ (series : List (ℕ × ℤ)). given_at (interpolates how) series time) group in omega (arith, fewer, small)) }

    pub placed_more : (time : ℕ) (v : ℤ) (new : List (ℕ × ℤ)) → time ≡ (get_or first k d).0 → All (HaveAt k time) group → made_of how (values_at how group time) ≡ Some v → new ≡ dots ++ (time, v) ∷ [] → Placed how group first (k + 1) new
    placed_more time v new is have value pushed =
        let both = made_some _ _ _ value in
        let point : (time, v) ≡ ((get_or first k d).0, combined how (values_at how group (get_or first k d).0)) = λ j. (is j, (sym both.1 ∙ ap (λ t. combined how (values_at how group t)) is) j) in
        record {
          is = pushed ∙ (λ j. placed.is j ++ point j ∷ []) ∙ sym (map-append (λ (p : ℕ × ℤ). (p.0, combined how (values_at how group p.0))) (take k first) (get_or first k d ∷ [])) ∙ ap (made how group) (sym (take_more first k d inside));
          fit = ap (find (is_over how)) pushed ∙ find-none_push (is_over how) dots (time, v) placed.fit (ap (overflows how) (sym both.1) ∙ both.0);
          share = λ i s within j e lt. ⊎_elim
              (λ (less : j < k). placed.share i s within j e less)
              (λ (not : k ≤ j). let same : j ≡ k = at_end j k not lt in ap (λ n. (get_or (get_or group i s) n e).0) same ∙ (have i s within).1 e ∙ is ∙ ap (λ (p : ℕ × ℤ). p.0) (get_or_default first k d e inside) ∙ ap (λ n. (get_or first n e).0) (sym same))
              (cases_lt j k);
        }
