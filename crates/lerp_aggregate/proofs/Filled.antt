-- Groups whose series have a value at each of some times.
use Rattle.std.proofs.Common.{◌≡◌, ℕ, zero, suc, ◌+◌, ◌*◌, ◌-◌, ◌<◌, ◌≤◌, ◌^◌, ℤ, pos, Bool, true, false, cond, ◌||◌, eqb, List, [], ◌∷◌, ◌++◌, length, map, replicate, get_or, Option, None, Some, Ok, Err, is_some, refl, sym, ap, subst, ◌∙◌, ⊎_elim, All, length-append, arith}
use Rattle.std.proofs.Math.Nat.{mul-le-mul_right}
use Rattle.std.specs.Prelude.{Contains, unwrap_or}
use Rattle.std.specs.List.{AllByRecursion, cons_option, filter_map, find, list_any}
use Rattle.std.specs.List.Sorted.{IsPermutation}
use Rattle.std.proofs.lemmas.Bool.{cases_Bool, cases_lt, cond-true, cond-false, eq-eqb, eqb-true, false≢true}
use Rattle.std.proofs.lemmas.List.{length-replicate, map-append}
use Rattle.std.proofs.lemmas.List.Elements.{All-head, All-tail}
use Rattle.std.proofs.lemmas.List.Sorted.{IsPermutation-refl, IsPermutation-cons, IsPermutation-middle, IsPermutation-trans, sum_by-IsPermutation, list_any-IsPermutation}
use Rattle.std.proofs.lemmas.Option.{none-some}
use Rattle.tsd_base.specs.declared.kinds.Aggregator.{Aggregator}
use Rattle.tsd_base.specs.Dots.{IsAboveAll}
use Rattle.lerp_aggregate.specs.declared.cursors.Walk.{Walk}
use Rattle.lerp_aggregate.specs.declared.tally.Tally.{Tally}
use Rattle.lerp_aggregate.specs.Aggregation.{value_at, value_or_between, given_at, interpolates, values_at, combined, overflows, points_unless, aggregated}
use Rattle.lerp_aggregate.specs.FilledGroups.{IsOn, filled, times_from, value_or_zero}
use Rattle.lerp_aggregate.specs.Tally.{Adds, Counts, HasRoom, made_of}
use Rattle.lerp_aggregate.specs.Walks.{StandAt, next_of, walked}
use Rattle.lerp_aggregate.proofs.CallerLemmas.{length-times, time_at}
use Rattle.lerp_aggregate.proofs.Finding.{find-none, find-none_push, found_large, is_over, made_none, made_some, of_no_series}
use Rattle.lerp_aggregate.proofs.Rising.{Rises}
use Rattle.lerp_aggregate.proofs.Same.{has_time, points_are, value_at_made, wanted_at}
use Rattle.lerp_aggregate.proofs.Standing.{Late}
use Rattle.lerp_aggregate.proofs.Unordered.{combined_same}
use Rattle.lerp_aggregate.proofs.Walking.{late, length-filter_map, onward, some_at_next}

-- ---- the times
-- each of them is low where all are
pub time_low : (i f n k : ℕ) → All (λ time. time < 2 ^ 43) (times_from i f n) → k < n → f + k * i < 2 ^ 43
time_low i f n k low inside = subst (λ (t : ℕ). t < 2 ^ 43) (time_at i f n k 0 inside) (low k 0 (omega (arith, inside, length-times i f n)))

times_more : (i f n : ℕ) → times_from i f (suc n) ≡ times_from i f n ++ (f + n * i) ∷ []
times_more i f zero = let here : f ≡ f + 0 * i = omega arith in ap (λ t. t ∷ []) here
times_more i f (suc n) = let here : f + i + n * i ≡ f + suc n * i = omega arith in ap (λ ts. f ∷ ts) (times_more i (f + i) n ∙ ap (λ t. times_from i (f + i) n ++ t ∷ []) here)

-- a time is one of them
place_of : (i f n u : ℕ) → list_any (eqb u) (times_from i f n) ≡ true → (j : ℕ) × (j < n) × (u ≡ f + j * i)
place_of i f zero u is = absurd (false≢true is)
place_of i f (suc n) u is =
    ⊎_elim
    (λ (e : eqb u f ≡ true). let here = eqb-true u f e in (0, omega arith, omega (arith, here)))
    (λ (e : eqb u f ≡ false). let (j, less, there) = place_of i (f + i) n u (sym (ap (λ b. b || list_any (eqb u) (times_from i (f + i) n)) e) ∙ is) in (suc j, omega (arith, less), omega (arith, there)))
    (cases_Bool (eqb u f))

or_true : (a : Bool) → (a || true) ≡ true
or_true true = refl
or_true false = refl

pub at_place : (i f n j u : ℕ) → j < n → u ≡ f + j * i → list_any (eqb u) (times_from i f n) ≡ true
at_place i f zero j u less is = absurd (omega (arith, less))
at_place i f (suc n) zero u less is = ap (λ b. b || list_any (eqb u) (times_from i (f + i) n)) (eq-eqb u f (omega (arith, is)))
at_place i f (suc n) (suc j) u less is = ap (λ b. eqb u f || b) (at_place i (f + i) n j u (omega (arith, less)) (omega (arith, is))) ∙ or_true (eqb u f)

-- one that is below the time at a place is one before that place
before_place : (i f n k u : ℕ) → list_any (eqb u) (times_from i f n) ≡ true → u < f + k * i → list_any (eqb u) (times_from i f k) ≡ true
before_place i f n k u is less =
    let (j, inside, there) = place_of i f n u is in
    ⊎_elim
    (λ (before : j < k). at_place i f k j u before there)
    (λ (not : k ≤ j). let more : k * i ≤ j * i = mul-le-mul_right i not in absurd (omega (arith, more, there, less)))
    (cases_lt j k)

-- and one that is above it is not before the next
next_place : (i f n k u : ℕ) → list_any (eqb u) (times_from i f n) ≡ true → f + k * i + 1 ≤ u → f + (k + 1) * i ≤ u
next_place i f n k u is more =
    let (j, inside, there) = place_of i f n u is in
    ⊎_elim
    (λ (before : j < k + 1). let few : j ≤ k = omega (arith, before) in let less : j * i ≤ k * i = mul-le-mul_right i few in absurd (omega (arith, less, there, more)))
    (λ (not : k + 1 ≤ j). let up : (k + 1) * i ≤ j * i = mul-le-mul_right i not in omega (arith, up, there))
    (cases_lt j (k + 1))

-- ---- values at these times
cond-some : (b : Bool) (v : ℤ) → is_some (cond b (Some v) None) ≡ b
cond-some true v = refl
cond-some false v = refl

given_filled : (c : Bool) (times : List ℕ) (s : List (ℕ × ℤ)) (t : ℕ) → list_any (eqb t) times ≡ true → given_at c (filled times s) t ≡ Some (value_or_zero s t)
given_filled true times s t is = ap (λ o. value_or_between o (filled times s) t) (value_at_made (value_or_zero s) times t ∙ cond-true _ _ _ is)
given_filled false times s t is = value_at_made (value_or_zero s) times t ∙ cond-true _ _ _ is

values_filled : (c : Bool) (times : List ℕ) (group : List (List (ℕ × ℤ))) (t : ℕ) → list_any (eqb t) times ≡ true → filter_map (λ series. given_at c series t) (map (filled times) group) ≡ map (λ s. value_or_zero s t) group
values_filled c times [] t is = refl
values_filled c times (s ∷ group) t is = λ j. cons_option (given_filled c times s t is j) (values_filled c times group t is j)

or_same : (b : Bool) → (b || b) ≡ b
or_same true = refl
or_same false = refl

or_false : (b : Bool) → (b || false) ≡ b
or_false true = refl
or_false false = refl

has_filled : (times : List ℕ) (group : List (List (ℕ × ℤ))) (t : ℕ) → 0 < length group → has_time (map (filled times) group) t ≡ list_any (eqb t) times
has_filled times [] t some = absurd (omega (arith, some))
has_filled times (s ∷ []) t some = or_false (is_some (value_at (filled times s) t)) ∙ ap is_some (value_at_made (value_or_zero s) times t) ∙ cond-some (list_any (eqb t) times) (value_or_zero s t)
has_filled times (s ∷ u ∷ group) t some =
    let here = ap is_some (value_at_made (value_or_zero s) times t) ∙ cond-some (list_any (eqb t) times) (value_or_zero s t) in
    (λ j. here j || has_filled times (u ∷ group) t (omega arith) j) ∙ or_same (list_any (eqb t) times)

-- what is made at a time
abbrev pub made_at : Aggregator → List (List (ℕ × ℤ)) → ℕ → ℤ
made_at how group t = combined how (map (λ s. value_or_zero s t) group)

wanted_by : (how : Aggregator) (group : List (List (ℕ × ℤ))) (b : Bool) (v : ℤ) (t : ℕ) → (b ≡ true → v ≡ made_at how group t) → cond b (Some v) None ≡ cond b (Some (made_at how group t)) None
wanted_by how group true v t is = ap Some (is refl)
wanted_by how group false v t is = refl

wanted_filled : (how : Aggregator) (times : List ℕ) (group : List (List (ℕ × ℤ))) (t : ℕ) → 0 < length group → wanted_at how (map (filled times) group) t ≡ cond (list_any (eqb t) times) (Some (made_at how group t)) None
wanted_filled how times group t some =
    ap (λ b. cond b (Some (combined how (values_at how (map (filled times) group) t))) None) (has_filled times group t some)
    ∙ wanted_by how group (list_any (eqb t) times) (combined how (values_at how (map (filled times) group) t)) t (λ is. ap (combined how) (values_filled (interpolates how) times group t is))

-- ---- one value of each series
one_zero : (present rest : List ℤ) (count m : ℕ) → length present ≤ count → length present + m ≡ suc count → ((n : ℕ) → length present + n ≡ count → IsPermutation (present ++ replicate n (pos 0)) rest) → IsPermutation (present ++ replicate m (pos 0)) (pos 0 ∷ rest)
one_zero present rest count zero few is moved = absurd (omega (arith, few, is))
one_zero present rest count (suc m) few is moved =
    IsPermutation-trans _ _ _ (IsPermutation-middle present (pos 0) (replicate m (pos 0))) (IsPermutation-cons (pos 0) _ _ (moved m (omega (arith, is))))

zeros_in : {S : Type 0} (gives : S → Option ℤ) (group : List S) (m : ℕ) → length (filter_map gives group) + m ≡ length group → IsPermutation (filter_map gives group ++ replicate m (pos 0)) (map (λ s. unwrap_or (gives s) (pos 0)) group)
zeros_in gives [] zero count = IsPermutation-refl []
zeros_in gives [] (suc m) count = absurd (omega (arith, count))
zeros_in gives (s ∷ group) m count =
    elim (gives s) as (λ o. length (cons_option o (filter_map gives group)) + m ≡ suc (length group) → IsPermutation (cons_option o (filter_map gives group) ++ replicate m (pos 0)) (unwrap_or o (pos 0) ∷ map (λ s. unwrap_or (gives s) (pos 0)) group)) [
      | None ↦ λ n. one_zero (filter_map gives group) _ (length group) m (length-filter_map gives group) n (λ k is. zeros_in gives group k is)
      | Some v ↦ λ n. IsPermutation-cons v _ _ (zeros_in gives group m (omega (arith, n)))
    ] count

made_same : (how : Aggregator) (vs ws : List ℤ) → IsPermutation vs ws → made_of how vs ≡ made_of how ws
made_same how vs ws moved = ap (λ v. cond (overflows how v) None (Some v)) (combined_same how vs ws (λ part. sym (sum_by-IsPermutation part vs ws moved)) (λ test. list_any-IsPermutation test vs ws moved))

module _ (list : List (List (ℕ × ℤ))) (walk : Walk) (t : ℕ) (old tally new : Tally) (all : walked list walk ≡ list) (start : Counts old []) (adds : Adds old tally (filter_map (λ series. given_at false series t) (walked list walk))) (small : length list < 2 ^ 63) where
  abbrev pub present : List ℤ
  present = filter_map (λ series. given_at false series t) (walked list walk)

  few : length present ≤ length list
  few = subst (λ l. length present ≤ length l) all (length-filter_map (λ series. given_at false series t) (walked list walk))

  pub few_counted : tally.count ≤ length list
  few_counted = let is = (adds.adds [] start).count in omega (arith, is, few)

  module _ (fills : Adds tally new (replicate (length list - tally.count) (pos 0))) where
    counted : Counts new (present ++ replicate (length list - tally.count) (pos 0))
    counted = fills.adds present (adds.adds [] start)

    count : length (present ++ replicate (length list - tally.count) (pos 0)) ≡ length list
    count = let is = (adds.adds [] start).count in omega (arith, is, few, length-append present (replicate (length list - tally.count) (pos 0)), length-replicate (length list - tally.count) (pos 0))

    pub counts_all : new.count ≡ length list
    counts_all = counted.count ∙ count

    pub has_room : HasRoom new 0
    has_room = record { values = present ++ replicate (length list - tally.count) (pos 0); counts = counted; few = omega (arith, count, small) }

    pub made_filled : (how : Aggregator) (result : Option ℤ) → ((values : List ℤ) → Counts new values → result ≡ made_of how values) → result ≡ made_of how (map (λ s. value_or_zero s t) list)
    made_filled how result is =
        let n = length list - tally.count in
        let sum : length present + n ≡ length list = omega (arith, count, length-append present (replicate n (pos 0)), length-replicate n (pos 0)) in
        is (present ++ replicate n (pos 0)) counted
        ∙ made_same how _ _ (zeros_in (λ series. given_at false series t) (walked list walk) n (subst (λ l. length present + n ≡ length l) (sym all) sum))
        ∙ ap (λ l. made_of how (map (λ s. value_or_zero s t) l)) all

-- ---- points at these times
abbrev pub points_to : Aggregator → List (List (ℕ × ℤ)) → ℕ → ℕ → ℕ → List (ℕ × ℤ)
points_to how group i f k = map (λ t. (t, made_at how group t)) (times_from i f k)

all_above : (g : ℕ → ℤ) (low i f k : ℕ) → low < f → AllByRecursion (λ (q : ℕ × ℤ). low < q.0) (map (λ t. (t, g t)) (times_from i f k))
all_above g low i f zero less = tt
all_above g low i f (suc k) less = (less, all_above g low i (f + i) k (omega (arith, less)))

all_below : (g : ℕ → ℤ) (end i f k : ℕ) → 1 ≤ i → f + k * i ≤ end → AllByRecursion (λ (q : ℕ × ℤ). q.0 < end) (map (λ t. (t, g t)) (times_from i f k))
all_below g end i f zero some within = tt
all_below g end i f (suc k) some within = (omega (arith, some, within), all_below g end i (f + i) k some (omega (arith, within)))

rises : (g : ℕ → ℤ) (i f k : ℕ) → 1 ≤ i → Rises (map (λ t. (t, g t)) (times_from i f k))
rises g i f zero some = tt
rises g i f (suc k) some = (all_above g f i (f + i) k (omega (arith, some)), rises g i (f + i) k some)

-- ---- no series, and some
pub of_no_filled : (how : Aggregator) (times : List ℕ) (group : List (List (ℕ × ℤ))) (dots : List (ℕ × ℤ)) → length group ≡ 0 → dots ≡ [] → aggregated how (map (filled times) group) ≡ Ok dots
of_no_filled how times [] dots none is = of_no_series how [] dots refl is
of_no_filled how times (series ∷ group) dots none is = absurd (omega (arith, none))

pub some_series : (group : List (List (ℕ × ℤ))) → eqb (length group) 0 ≡ false → 0 < length group
some_series [] none = absurd (false≢true (sym none))
some_series (series ∷ group) none = omega arith

-- ---- the points of series are at these times
contains_any : (x : ℕ) (xs : List ℕ) (k : ℕ) → k < length xs → get_or xs k x ≡ x → list_any (eqb x) xs ≡ true
contains_any x [] k inside is = absurd (omega (arith, inside))
contains_any x (y ∷ xs) zero inside is = ap (λ b. b || list_any (eqb x) xs) (eq-eqb x y (sym is))
contains_any x (y ∷ xs) (suc k) inside is = ap (λ b. eqb x y || b) (contains_any x xs k (omega (arith, inside)) is) ∙ or_true (eqb x y)

on_times : (times : List ℕ) (s : List (ℕ × ℤ)) (u : ℕ) → IsOn times s → is_some (value_at s u) ≡ true → list_any (eqb u) times ≡ true
on_times times [] u on has = absurd (false≢true has)
on_times times (p ∷ s) u on has =
    ⊎_elim
    (λ (e : eqb u p.0 ≡ true).
    let here : Contains times p.0 = All-head (λ (q : ℕ × ℤ). Contains times q.0) p s on in
    let same = eqb-true u p.0 e in
    ap (λ t. list_any (eqb t) times) same ∙ contains_any p.0 times here.0 here.1 here.2)
    (λ (e : eqb u p.0 ≡ false). on_times times s u (All-tail (λ (q : ℕ × ℤ). Contains times q.0) p s on) (ap is_some (sym (cond-false _ _ _ e)) ∙ has))
    (cases_Bool (eqb u p.0))

on_group : (times : List ℕ) (group : List (List (ℕ × ℤ))) (u : ℕ) → All (IsOn times) group → has_time group u ≡ true → list_any (eqb u) times ≡ true
on_group times [] u on has = absurd (false≢true has)
on_group times (s ∷ group) u on has =
    ⊎_elim
    (λ (here : is_some (value_at s u) ≡ true). on_times times s u (All-head (IsOn times) s group on) here)
    (λ (none : is_some (value_at s u) ≡ false). on_group times group u (All-tail (IsOn times) s group on) (sym (ap (λ b. b || has_time group u) none) ∙ has))
    (cases_Bool (is_some (value_at s u)))

pub limited : (times : List ℕ) (group : List (List (ℕ × ℤ))) → All (λ time. time < 2 ^ 43) times → All (IsOn times) group → All (λ series. All (λ p. p.0 < 2 ^ 43) series) group
limited times group low on = λ a d inside b e within.
    let there : Contains times (get_or (get_or group a d) b e).0 = on a d inside b e within in
    subst (λ (t : ℕ). t < 2 ^ 43) there.2 (low there.0 (get_or (get_or group a d) b e).0 there.1)

-- the next point isn't before a time that none of these times lies before
late_on : (times : List ℕ) (group : List (List (ℕ × ℤ))) (walk : Walk) (now later : ℕ) → All (IsOn times) group → walked group walk ≡ group → StandAt group now walk
    → ((u : ℕ) → list_any (eqb u) times ≡ true → now ≤ u → later ≤ u) → (next : Option ℕ) → next_of walk ≡ next → Late later next
late_on times group walk now later on all stand up None is = tt
late_on times group walk now later on all stand up (Some u) is =
    let from : now ≤ u = subst (Late now) is (late group now walk stand) in
    let here = onward group now u walk from stand (subst (Late u) (sym is) (omega arith)) in
    up u (on_group times group u on (sym (ap (λ g. has_time g u) all) ∙ some_at_next group u walk here is)) from

pub stand_on : (times : List ℕ) (group : List (List (ℕ × ℤ))) (walk : Walk) (now later : ℕ) → All (IsOn times) group → walked group walk ≡ group → StandAt group now walk → now ≤ later
    → ((u : ℕ) → list_any (eqb u) times ≡ true → now ≤ u → later ≤ u) → StandAt group later walk
stand_on times group walk now later on all stand up_to up = onward group now later walk up_to stand (late_on times group walk now later on all stand up (next_of walk) refl)

-- ---- the points at the first so many times
pub record Filling (how : Aggregator) (group : List (List (ℕ × ℤ))) (i f k : ℕ) (walk : Walk) (dots : List (ℕ × ℤ)) : Type 0 where
  pub stand : StandAt group (f + k * i) walk
  pub all : walked group walk ≡ group
  pub is : dots ≡ points_to how group i f k
  pub fit : find (is_over how) dots ≡ None

module _ (how : Aggregator) (group : List (List (ℕ × ℤ))) (i f n : ℕ) (some : 0 < length group) (step : 1 ≤ i) (on : All (IsOn (times_from i f n)) group) where
  pub filling_none : (walk : Walk) (dots : List (ℕ × ℤ)) → walked group walk ≡ group → StandAt group 0 walk → dots ≡ [] → Filling how group i f 0 walk dots
  filling_none walk dots all stand none = record {
    stand = stand_on (times_from i f n) group walk 0 (f + 0 * i) on all stand (omega arith) (λ u is low. let (j, less, there) = place_of i f n u is in omega (arith, there));
    all = all;
    is = none;
    fit = ap (find (is_over how)) none;
  }

  module _ (k : ℕ) (walk : Walk) (dots : List (ℕ × ℤ)) (filling : Filling how group i f k walk dots) where
    pub filled_all : k ≡ n → aggregated how (map (filled (times_from i f n)) group) ≡ Ok dots
    filled_all end =
        let times = times_from i f n in
        let is : dots ≡ points_to how group i f n = filling.is ∙ ap (points_to how group i f) end in
        let same : (t : ℕ) → value_at dots t ≡ wanted_at how (map (filled times) group) t = λ t. ap (λ l. value_at l t) is ∙ value_at_made (made_at how group) times t ∙ sym (wanted_filled how times group t some) in
        ap (λ points. points_unless (find (is_over how) points) points) (sym (points_are how (map (filled times) group) dots (subst Rises (sym is) (rises (made_at how group) i f n step)) same)) ∙ ap (λ o. points_unless o dots) filling.fit

    module _ (inside : k < n) (time : ℕ) (at : time ≡ f + k * i) where
      pub stand_here : StandAt group time walk
      stand_here = subst (λ t. StandAt group t walk) (sym at) filling.stand

      pub time_above : IsAboveAll time dots
      time_above = subst (λ l. IsAboveAll time l) (sym filling.is) (all_below (made_at how group) time i f k step (omega (arith, at)))

      there : list_any (eqb time) (times_from i f n) ≡ true
      there = at_place i f n k time inside at

      before : (u : ℕ) (w : ℤ) → u < time → wanted_at how (map (filled (times_from i f n)) group) u ≡ Some w → value_at dots u ≡ Some w
      before u w less wanted =
          let by = sym (wanted_filled how (times_from i f n) group u some) ∙ wanted in
          ⊎_elim
          (λ (is : list_any (eqb u) (times_from i f n) ≡ true).
          let early = before_place i f n k u is (omega (arith, less, at)) in
          ap (λ l. value_at l u) filling.is ∙ value_at_made (made_at how group) (times_from i f k) u ∙ cond-true _ _ _ early ∙ sym (cond-true _ _ _ is) ∙ by)
          (λ (none : list_any (eqb u) (times_from i f n) ≡ false). absurd (none-some w (sym (cond-false _ _ _ none) ∙ by)))
          (cases_Bool (list_any (eqb u) (times_from i f n)))

      pub too_large : made_of how (map (λ s. value_or_zero s time) group) ≡ None → aggregated how (map (filled (times_from i f n)) group) ≡ Err time
      too_large none =
          found_large how (map (filled (times_from i f n)) group) time (made_at how group time) (wanted_filled how (times_from i f n) group time some ∙ cond-true _ _ _ there) (made_none _ _ none)
          (λ u w less wanted. find-none (is_over how) dots u w filling.fit (before u w less wanted))

      pub filling_more : (v : ℤ) (walk' : Walk) (dots' : List (ℕ × ℤ)) → made_of how (map (λ s. value_or_zero s time) group) ≡ Some v → walked group walk' ≡ group → StandAt group (time + 1) walk' → dots' ≡ dots ++ (time, v) ∷ [] → Filling how group i f (k + 1) walk' dots'
      filling_more v walk' dots' made all stand pushed =
          let both = made_some _ _ _ made in
          let one : k + 1 ≡ suc k = omega arith in
          record {
            stand = stand_on (times_from i f n) group walk' (time + 1) (f + (k + 1) * i) on all stand (omega (arith, at, step)) (λ u is low. next_place i f n k u is (omega (arith, low, at)));
            all = all;
            is = pushed ∙ (λ j. filling.is j ++ (at j, (sym both.1 ∙ ap (made_at how group) at) j) ∷ []) ∙ sym (map-append (λ t. (t, made_at how group t)) (times_from i f k) ((f + k * i) ∷ [])) ∙ ap (map (λ t. (t, made_at how group t))) (sym (ap (times_from i f) one ∙ times_more i f k));
            fit = ap (find (is_over how)) pushed ∙ find-none_push (is_over how) dots (time, v) filling.fit (ap (overflows how) (sym both.1) ∙ both.0);
          }
