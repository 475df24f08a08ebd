-- The last values at each time.
use Rattle.std.proofs.Common.{◌≡◌, ℕ, ◌+◌, ◌<◌, ◌≤◌, ℤ, Bool, true, false, cond, List, [], ◌∷◌, ◌++◌, Option, Some, None, refl, sym, ap, ◌∙◌, suc, length, arith, add-one, get_or, take}
use Rattle.std.specs.Prelude.{nat_eq}
use Rattle.std.specs.Option.{option_or}
use Rattle.std.specs.List.{AllByRecursion}
use Rattle.std.specs.BTreeMap.{BTreeMap, get}
use Rattle.std.specs.Cmp.{unsigned_tied, nat_eq_equiv}
use Rattle.std.specs.Map.{lookup}
use Rattle.std.specs.Ordering.{nat_cmp}
use Rattle.std.specs.declared.cmp.Ordering.TheVariants.{Less}
use Rattle.std.specs.List.Sorted.{IsStrictlySortedBy}
use Rattle.std.specs.Map.{keys_of}
use Rattle.std.proofs.lemmas.Map.Keys.{sorted_head, sorted_tail}
use Rattle.std.proofs.lemmas.Bool.{ltb-true, eqb-true}
use Rattle.std.proofs.lemmas.Bool.Decides.{nat_tests}
use Rattle.std.proofs.lemmas.List.Elements.{All-push, recursion_from_All}
use Rattle.std.proofs.lemmas.List.Kept.{AllPairs-cons}
use Rattle.std.proofs.Math.Seq.{take-suc}
use Rattle.lerp_aggregate.specs.Aggregation.{value_at}
use Rattle.tsd_base.specs.Dots.{IsAboveAll, IsRising}
use Rattle.batch_job.specs.LastValues.{last_at, is_later}

-- the latest time so far, if there is one
abbrev pub IsUpTo : Option ℕ → List (ℕ × ℤ) → Type 0
IsUpTo None dots = dots ≡ []
IsUpTo (Some latest) dots = AllByRecursion (λ d. d.0 ≤ latest) dots

all_weaker : {A : Type 0} (P Q : A → Type 0) → ((x : A) → P x → Q x) → (xs : List A) → AllByRecursion P xs → AllByRecursion Q xs
all_weaker P Q w [] h = tt
all_weaker P Q w (x ∷ xs) h = (w x h.0, all_weaker P Q w xs h.1)

all_more : {A : Type 0} (P : A → Type 0) (xs : List A) (y : A) → AllByRecursion P xs → P y → AllByRecursion P (xs ++ y ∷ [])
all_more P [] y h p = (p, tt)
all_more P (x ∷ xs) y h p = (h.0, all_more P xs y h.1 p)

-- a later time is above all
pub above : (latest : Option ℕ) (dots : List (ℕ × ℤ)) (time : ℕ) → IsUpTo latest dots → is_later time latest ≡ true → IsAboveAll time dots
above None [] time h later = tt
above None (d ∷ dots) time h later = absurd (no_list h)
  where
    no_list : {d : ℕ × ℤ} {dots : List (ℕ × ℤ)} → d ∷ dots ≡ [] → ⊥
    no_list e = grind (arith, e)
above (Some latest) dots time h later = all_weaker (λ d. d.0 ≤ latest) (λ d. d.0 < time) (λ d most. let l = ltb-true latest time later in omega (arith, l, most)) dots h

pub up_to_more : (latest : Option ℕ) (dots : List (ℕ × ℤ)) (time : ℕ) (value : ℤ) → IsUpTo latest dots → is_later time latest ≡ true → IsUpTo (Some time) (dots ++ (time, value) ∷ [])
up_to_more latest dots time value h later = all_more (λ d. d.0 ≤ time) dots (time, value) (all_weaker (λ d. d.0 < time) (λ d. d.0 ≤ time) (λ d less. omega (arith, less)) dots (above latest dots time h later)) (omega arith)

-- ---- one more value
or_none : (o : Option ℤ) → option_or o None ≡ o
or_none None = refl
or_none (Some v) = refl

or_twice : (o : Option ℤ) (b : Bool) (v : ℤ) (p : Option ℤ) → option_or (cond b (Some v) o) p ≡ cond b (Some v) (option_or o p)
or_twice o true v p = refl
or_twice o false v p = refl

pub last_at-more : (dots : List (ℕ × ℤ)) (d : ℕ × ℤ) (time : ℕ) → last_at (dots ++ d ∷ []) time ≡ cond (nat_eq d.0 time) (Some d.1) (last_at dots time)
last_at-more [] d time = refl
last_at-more (e ∷ dots) d time =
    ap (λ o. option_or o (cond (nat_eq e.0 time) (Some e.1) None)) (last_at-more dots d time)
    ∙ or_twice (last_at dots time) (nat_eq d.0 time) d.1 (cond (nat_eq e.0 time) (Some e.1) None)

-- ---- where times rise there is one value at each
pub value_at-get : (values : BTreeMap ℕ ℤ) (t : ℕ) → value_at values.entries t ≡ get nat_cmp values t
value_at-get values t = ap (λ test. lookup test values.entries) (λ i k. sym (unsigned_tied t k) i)

no_value : (dots : List (ℕ × ℤ)) (time : ℕ) → AllByRecursion (λ d. time < d.0) dots → last_at dots time ≡ None
no_value [] time h = refl
no_value (d ∷ dots) time h =
    ap (λ o. option_or o (cond (nat_eq d.0 time) (Some d.1) None)) (no_value dots time h.1)
    ∙ ap (λ b. cond b (Some d.1) None) (apart d.0 time h.0)
  where
    apart : (a t : ℕ) → t < a → nat_eq a t ≡ false
    apart a t less = grind (arith, nat_tests)

one_value : (d : ℕ × ℤ) (time : ℕ) (rest : Option ℤ) (b : Bool) → nat_eq time d.0 ≡ b → (b ≡ true → rest ≡ None) → cond b (Some d.1) rest ≡ option_or rest (cond b (Some d.1) None)
one_value d time rest true e none = ap (λ o. option_or o (Some d.1)) (sym (none refl))
one_value d time rest false e none = sym (or_none rest)

rising_by : List (ℕ × ℤ) → Type 0
rising_by [] = Unit {0}
rising_by (d ∷ dots) = AllByRecursion (λ e. d.0 < e.0) dots × rising_by dots

last_is_only : (dots : List (ℕ × ℤ)) (time : ℕ) → rising_by dots → value_at dots time ≡ last_at dots time
unfolding rising_by
last_is_only [] time h = refl
last_is_only (d ∷ dots) time h =
    ap (λ o. cond (nat_eq time d.0) (Some d.1) o) (last_is_only dots time h.1)
    ∙ one_value d time (last_at dots time) (nat_eq time d.0) refl (λ e. no_value dots time (all_weaker (λ x. d.0 < x.0) (λ x. time < x.0) (λ x less. let same = eqb-true time d.0 e in omega (arith, same, less)) dots h.0))
    ∙ ap (λ b. option_or (last_at dots time) (cond b (Some d.1) None)) (nat_eq_equiv.symm time d.0)

rising_from_pairs : (dots : List (ℕ × ℤ)) → IsRising dots → rising_by dots
unfolding rising_by
rising_from_pairs [] h = tt
rising_from_pairs (d ∷ dots) h = (
  recursion_from_All (λ e. d.0 < e.0) dots (λ k x less. h 0 (suc k) x (omega arith) (omega (arith, less))),
  rising_from_pairs dots (λ i j x less within. h (suc i) (suc j) x (omega (arith, less)) (omega (arith, within))),
)

-- values whose times rise are the last ones at their times
pub settled_as_is : (values : List (ℕ × ℤ)) → IsRising values → (time : ℕ) → value_at values time ≡ last_at values time
settled_as_is values h time = last_is_only values time (rising_from_pairs values h)

-- a later value behind rising ones rises
pub rising_more : (dots : List (ℕ × ℤ)) (d : ℕ × ℤ) → IsRising dots → IsAboveAll d.0 dots → IsRising (dots ++ d ∷ [])
rising_more [] d rising above = λ i j e less within. absurd (omega (arith, less, within))
rising_more (x ∷ xs) d rising above =
    AllPairs-cons (λ (p q : ℕ × ℤ). p.0 < q.0) x (xs ++ d ∷ [])
    (All-push (λ (q : ℕ × ℤ). x.0 < q.0) xs d (λ k e less. rising 0 (suc k) e (omega arith) (omega (arith, less))) above.0)
    (rising_more xs d (λ i j e less within. rising (suc i) (suc j) e (omega (arith, less)) (omega (arith, within))) above.1)

pub take_next : {A : Type 0} (xs : List A) (i : ℕ) (d : A) → i < length xs → take (i + 1) xs ≡ take i xs ++ get_or xs i d ∷ []
take_next xs i d less = ap (λ k. take k xs) (add-one i) ∙ take-suc xs i d less

-- ---- the entries of a map rise
pub below_from_Less : (a b : ℕ) → nat_cmp a b ≡ Less → a < b
below_from_Less a b h = grind (arith, nat_tests)

-- among keys in order each is above those before it
at_middle : (P : ℕ → Type 0) (dots rest : List (ℕ × ℤ)) (d : ℕ × ℤ) → AllByRecursion P (keys_of (dots ++ d ∷ rest)) → P d.0
at_middle P [] rest d h = h.0
at_middle P (p ∷ dots) rest d h = at_middle P dots rest d h.1

pub IsAboveAll-from_sorted : (dots rest : List (ℕ × ℤ)) (d : ℕ × ℤ) → IsStrictlySortedBy nat_cmp (keys_of (dots ++ d ∷ rest)) → IsAboveAll d.0 dots
IsAboveAll-from_sorted [] rest d h = tt
IsAboveAll-from_sorted (p ∷ dots) rest d h = (
  below_from_Less p.0 d.0 (at_middle (λ y. nat_cmp p.0 y ≡ Less) dots rest d (sorted_head nat_cmp p.0 _ h)),
  IsAboveAll-from_sorted dots rest d (sorted_tail nat_cmp p.0 _ h),
)
