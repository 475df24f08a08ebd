-- The best dot of each offset and value, and the dots that stay, in order.
use Rattle.std.proofs.Common.{◌≡◌, ◌≢◌, ◌⊎◌, inl, inr, ℕ, zero, suc, ℤ, ◌+◌, ◌<◌, ◌≤◌, Bool, true, false, cond, List, [], ◌∷◌, ◌++◌, length, refl, sym, ap, subst, ◌∙◌, arith}
use Rattle.std.specs.Prelude.{AllPairs, Contains, Option, None, Some, filter, map, nat_le, MatchBool}
use Rattle.std.specs.List.{slice_get}
use Rattle.std.specs.List.Sorted.{IsPermutation, IsSorted}
use Rattle.std.specs.BTreeMap.{BTreeMap, get, is_at}
use Rattle.std.specs.Map.{lookup}
use Rattle.std.specs.Ordering.{eq_by_cmp, is_eq, int_cmp, nat_cmp, ordering_then}
use Rattle.std.specs.Cmp.{IsTotalOrder, int_cmp_total, nat_cmp_total, on_total, then_total, tied_itself}
use Rattle.std.specs.FinMap.{int_cmp-IsAntisymmetric, nat_cmp-IsAntisymmetric}
use Rattle.std.specs.declared.cmp.Ordering.{Ordering}
use Rattle.std.specs.declared.cmp.Ordering.TheVariants.{Less, Equal, Greater}
use Rattle.std.proofs.lemmas.Bool.{cases_lt}
use Rattle.std.proofs.lemmas.List.Kept.{AllPairs-filter}
use Rattle.std.proofs.lemmas.List.Sorted.{Contains-permutation, IsPermutation-sym}
use Rattle.std.proofs.lemmas.Option.{slice_get_within}
use Rattle.list_lemmas.proofs.BoolTests.{is_equal, nat_eq_is, nat_eq-same, not_Some, same_Some}
use Rattle.list_lemmas.proofs.ListMembers.{here, there, not_in, pairs_tail, split}
use Rattle.list_lemmas.proofs.ListParts.{in_filter, pairs_cons, to_filter}
use Rattle.qual_codec.specs.declared.cells.Dot.{Dot}
use Rattle.qual_codec.specs.declared.cells.Item.{Item}
use Rattle.qual_codec.specs.Order.{IsAsGood}
use Rattle.qual_codec.specs.MergeSteps.{is_as_good}
use Rattle.std.proofs.lemmas.Bool.{le-leb, lt-leb}
use Rattle.listing_dump.specs.declared.best_dots.PlacedDot.{PlacedDot}
use Rattle.listing_dump.specs.Dumps.{Stays}
use Rattle.listing_dump.specs.BestDots.{AreBest, AreKept, ArePlaced, Beats, Keeps, dot_cmp, is_best, is_kept, kept_of, numbered, value_cmp}
use Rattle.listing_dump.proofs.Apart.{apart_moved, sorted_rises}
use Rattle.listing_dump.proofs.Filters.{pairs_get}
use Rattle.listing_dump.proofs.RankOrders.{nat_less}

-- ---- items

pub good_itself : (i : Item) → IsAsGood i i
good_itself i = record { offset = refl; better = inr (refl, omega (arith)) }

pub good_trans : (i j k : Item) → IsAsGood i j → IsAsGood j k → IsAsGood i k
good_trans i j k a b = record { offset = a.offset ∙ b.offset; better = at a.better b.better }
  where
    nay : {A : Type 0} → (x : Bool) → x ≡ true → x ≡ false → A
    nay x so not = let w : true ≡ false = sym so ∙ not in cc

    at : ((i.fine ≡ true) × (j.fine ≡ false)) ⊎ ((i.fine ≡ j.fine) × (i.len ≤ j.len)) → ((j.fine ≡ true) × (k.fine ≡ false)) ⊎ ((j.fine ≡ k.fine) × (j.len ≤ k.len)) → ((i.fine ≡ true) × (k.fine ≡ false)) ⊎ ((i.fine ≡ k.fine) × (i.len ≤ k.len))
    at (inl x) (inl y) = nay j.fine y.0 x.1
    at (inl x) (inr y) = inl (x.0, sym y.0 ∙ x.1)
    at (inr x) (inl y) = inl (x.0 ∙ y.0, y.1)
    at (inr x) (inr y) = inr (x.0 ∙ y.0, le x.1 y.1)
      where
        le : i.len ≤ j.len → j.len ≤ k.len → i.len ≤ k.len
        le p q = omega (arith, p, q)

-- at one offset one of two items is as good as the other
pub good_total : (i j : Item) → i.offset ≡ j.offset → (IsAsGood i j → ⊥) → IsAsGood j i
good_total i j same not = at i.fine j.fine refl refl (cases_lt j.len i.len)
  where
    at : (b c : Bool) → i.fine ≡ b → j.fine ≡ c → (j.len < i.len) ⊎ (i.len ≤ j.len) → IsAsGood j i
    at true false fi fj len = absurd (not (record { offset = same; better = inl (fi, fj) }))
    at false true fi fj len = record { offset = sym same; better = inl (fj, fi) }
    at true true fi fj (inr le) = absurd (not (record { offset = same; better = inr (fi ∙ sym fj, le) }))
    at false false fi fj (inr le) = absurd (not (record { offset = same; better = inr (fi ∙ sym fj, le) }))
    at true true fi fj (inl lt) = record { offset = sym same; better = inr (fj ∙ sym fi, omega (arith, lt)) }
    at false false fi fj (inl lt) = record { offset = sym same; better = inr (fj ∙ sym fi, omega (arith, lt)) }

abbrev pub tests : Bool → Bool → Bool → Bool
tests b c l = cond b (cond c l true) (cond c false l)

-- the test of an item
pub good_test : (i j : Item) → i.offset ≡ j.offset → MatchBool (is_as_good i j) (IsAsGood i j) (IsAsGood i j → ⊥)
good_test i j same = at i.fine j.fine (nat_le i.len j.len) refl refl refl (cases_lt j.len i.len)
  where
    differ : {A : Type 0} (b : Bool) → b ≡ true → b ≡ false → A
    differ b t f = let w : true ≡ false = sym t ∙ f in absurd cc

    no_better : i.fine ≡ j.fine → j.len < i.len → IsAsGood i j → ⊥
    no_better e lt good = by good.better
      where
        by : ((i.fine ≡ true) × (j.fine ≡ false)) ⊎ ((i.fine ≡ j.fine) × (i.len ≤ j.len)) → ⊥
        by (inl x) = differ j.fine (sym e ∙ x.0) x.1
        by (inr x) = let le = x.1 in omega (arith, lt, le)

    no_worse : i.fine ≡ false → j.fine ≡ true → IsAsGood i j → ⊥
    no_worse fi fj good = by good.better
      where
        by : ((i.fine ≡ true) × (j.fine ≡ false)) ⊎ ((i.fine ≡ j.fine) × (i.len ≤ j.len)) → ⊥
        by (inl x) = differ i.fine x.0 fi
        by (inr x) = differ i.fine (x.0 ∙ fj) fi

    same_test : (b c l : Bool) → i.fine ≡ b → j.fine ≡ c → nat_le i.len j.len ≡ l → is_as_good i j ≡ tests b c l
    same_test b c l fi fj le = λ k. tests (fi k) (fj k) (le k)

    at : (b c l : Bool) → i.fine ≡ b → j.fine ≡ c → nat_le i.len j.len ≡ l → (j.len < i.len) ⊎ (i.len ≤ j.len) → MatchBool (is_as_good i j) (IsAsGood i j) (IsAsGood i j → ⊥)
    at b c l fi fj le len = subst (λ (t : Bool). MatchBool t (IsAsGood i j) (IsAsGood i j → ⊥)) (sym (same_test b c l fi fj le)) (by b c l fi fj le len)
      where
        by : (b c l : Bool) → i.fine ≡ b → j.fine ≡ c → nat_le i.len j.len ≡ l → (j.len < i.len) ⊎ (i.len ≤ j.len) → MatchBool (tests b c l) (IsAsGood i j) (IsAsGood i j → ⊥)
        by true false l fi fj le len = record { offset = same; better = inl (fi, fj) }
        by false true l fi fj le len = no_worse fi fj
        by true true true fi fj le (inr less) = record { offset = same; better = inr (fi ∙ sym fj, less) }
        by false false true fi fj le (inr less) = record { offset = same; better = inr (fi ∙ sym fj, less) }
        by true true false fi fj le (inl lt) = no_better (fi ∙ sym fj) lt
        by false false false fi fj le (inl lt) = no_better (fi ∙ sym fj) lt
        by true true true fi fj le (inl lt) = absurd (differ (nat_le i.len j.len) le (lt-leb i.len j.len lt))
        by false false true fi fj le (inl lt) = absurd (differ (nat_le i.len j.len) le (lt-leb i.len j.len lt))
        by true true false fi fj le (inr less) = absurd (differ (nat_le i.len j.len) (le-leb i.len j.len less) le)
        by false false false fi fj le (inr less) = absurd (differ (nat_le i.len j.len) (le-leb i.len j.len less) le)

-- ---- dots with their places

record At (dots : List Dot) (n : ℕ) (q : PlacedDot) : Type 0 where
  pub place : ℕ
  pub place_is : q.place ≡ n + place
  pub there : slice_get dots place ≡ Some q.dot

at_place : (n : ℕ) (dots : List Dot) (q : PlacedDot) → Contains (numbered n dots) q → At dots n q
at_place n [] q c = absurd (not_in q c)
at_place n (d ∷ dots) q c = by (split (record { place = n; dot = d }) q (numbered (n + 1) dots) c) (at_place (n + 1) dots q)
  where
    by : ((record { place = n; dot = d }) ≡ q) ⊎ Contains (numbered (n + 1) dots) q → (Contains (numbered (n + 1) dots) q → At dots (n + 1) q) → At (d ∷ dots) n q
    by (inl same) go = record { place = 0; place_is = sym (ap (λ (x : PlacedDot). x.place) same) ∙ (let e : n ≡ n + 0 = omega (arith) in e); there = ap Some (ap (λ (x : PlacedDot). x.dot) same) }
    by (inr later) go = let x = go later in record { place = suc x.place; place_is = x.place_is ∙ (let e : (n + 1) + x.place ≡ n + suc x.place = omega (arith) in e); there = x.there }

is_numbered : (n : ℕ) (dots : List Dot) (i : ℕ) (d : Dot) → slice_get dots i ≡ Some d → Contains (numbered n dots) (record { place = n + i; dot = d })
is_numbered n [] i d is = absurd (not_Some d (sym is))
is_numbered n (x ∷ dots) zero d is =
    subst (Contains (numbered n (x ∷ dots))) (λ k. record { place = (let e : n ≡ n + 0 = omega (arith) in e) k; dot = same_Some x d is k }) (here (record { place = n; dot = x }) (numbered (n + 1) dots))
is_numbered n (x ∷ dots) (suc i) d is =
    there (record { place = n; dot = x }) (record { place = n + suc i; dot = d }) (numbered (n + 1) dots)
    (subst (Contains (numbered (n + 1) dots)) (λ k. record { place = (let e : (n + 1) + i ≡ n + suc i = omega (arith) in e) k; dot = d }) (is_numbered (n + 1) dots i d is))

-- their places differ
numbered_apart : (n : ℕ) (dots : List Dot) → AllPairs (λ (p q : PlacedDot). p.place ≡ q.place → ⊥) (numbered n dots)
numbered_apart n [] = λ i j d low lt. absurd (omega (arith, lt))
numbered_apart n (d ∷ dots) =
    pairs_cons (λ (p q : PlacedDot). p.place ≡ q.place → ⊥) (record { place = n; dot = d }) (numbered (n + 1) dots)
    (λ q c same. let x = at_place (n + 1) dots q c in let e = x.place_is in absurd (omega (arith, e, same)))
    (numbered_apart (n + 1) dots)

abbrev pub Rises : List PlacedDot → Type 0
Rises placed = AllPairs (λ p q. dot_cmp p q ≡ Less) placed

dot_total : IsTotalOrder dot_cmp
dot_total = then_total (on_total (λ (p : PlacedDot). p.dot.item.offset) nat_cmp_total) (on_total (λ (p : PlacedDot). p.place) nat_cmp_total)

last_equal : (a b : Ordering) → ordering_then a b ≡ Equal → b ≡ Equal
last_equal Less b e = absurd cc
last_equal Equal b e = e
last_equal Greater b e = absurd cc

-- sorted by offset and place, they are in order
pub placed_sorted : (dots : List Dot) (placed : List PlacedDot) → IsPermutation (numbered 0 dots) placed → IsSorted dot_cmp placed → ArePlaced dots placed
placed_sorted dots placed moved sorted = record {
  rising = sorted_rises (λ (p : PlacedDot). p.place) dot_cmp dot_total (λ p q e. nat_cmp-IsAntisymmetric p.place q.place (last_equal (nat_cmp p.dot.item.offset q.dot.item.offset) (nat_cmp p.place q.place) e)) placed sorted
      (apart_moved (λ (p : PlacedDot). p.place) (numbered 0 dots) placed moved (numbered_apart 0 dots));
  each = λ p c.
      let x = at_place 0 dots p (Contains-permutation placed (numbered 0 dots) p (IsPermutation-sym (numbered 0 dots) placed moved) c) in
      ap (slice_get dots) (let e = x.place_is in let is : p.place ≡ x.place = omega (arith, e) in is) ∙ x.there;
  all = λ place d is.
      Contains-permutation (numbered 0 dots) placed (record { place = place; dot = d }) moved (subst (Contains (numbered 0 dots)) (λ k. record { place = (let e : 0 + place ≡ place = omega (arith) in e) k; dot = d }) (is_numbered 0 dots place d is));
}

-- ---- offsets that rise

abbrev pub OffsetsRise : List Dot → Type 0
OffsetsRise dots = AllPairs (λ (d e : Dot). d.item.offset < e.item.offset) dots

one_place : (dots : List Dot) → OffsetsRise dots → (i j : ℕ) (d e : Dot) → slice_get dots i ≡ Some d → slice_get dots j ≡ Some e → d.item.offset ≡ e.item.offset → i ≡ j
one_place dots up i j d e isd ise same = by (cases_lt i j) (cases_lt j i)
  where
    by : (i < j) ⊎ (j ≤ i) → (j < i) ⊎ (i ≤ j) → i ≡ j
    by (inl lt) _ = absurd (let low = pairs_get (λ (x y : Dot). x.item.offset < y.item.offset) dots up i j d e isd ise lt in omega (arith, low, same))
    by (inr le) (inl lt) = absurd (let low = pairs_get (λ (x y : Dot). x.item.offset < y.item.offset) dots up j i e d ise isd lt in omega (arith, low, same))
    by (inr le) (inr ge) = omega (arith, le, ge)

rising_stays : (dots : List Dot) → OffsetsRise dots → (place : ℕ) (d : Dot) → slice_get dots place ≡ Some d → Stays dots place d
rising_stays dots up place d isd = record {
  there = isd;
  best = λ other e ise offset value.
      let one = one_place dots up other place e d ise isd offset in
      let same : e ≡ d = same_Some e d (sym ise ∙ ap (slice_get dots) one ∙ isd) in
      (subst (λ (x : Dot). IsAsGood x.item d.item) (sym same) (good_itself d.item), λ _. omega (arith, one));
}

numbered_rise : (n : ℕ) (dots : List Dot) → OffsetsRise dots → Rises (numbered n dots)
numbered_rise n [] up = λ i j d low lt. absurd (omega (arith, lt))
numbered_rise n (d ∷ dots) up =
    pairs_cons (λ (p q : PlacedDot). dot_cmp p q ≡ Less) (record { place = n; dot = d }) (numbered (n + 1) dots)
    (λ q c.
    let x = at_place (n + 1) dots q c in
    let low = pairs_get (λ (x y : Dot). x.item.offset < y.item.offset) (d ∷ dots) up 0 (suc x.place) d q.dot refl x.there (omega (arith)) in
    ap (λ o. ordering_then o (nat_cmp n q.place)) (nat_less d.item.offset q.dot.item.offset low))
    (numbered_rise (n + 1) dots (pairs_tail (λ (x y : Dot). x.item.offset < y.item.offset) d dots up))

dots_numbered : (n : ℕ) (dots : List Dot) → dots ≡ map (λ (p : PlacedDot). p.dot) (numbered n dots)
dots_numbered n [] = refl
dots_numbered n (d ∷ dots) = ap (λ ds. d ∷ ds) (dots_numbered (n + 1) dots)

-- of dots whose offsets rise each stays
pub all_stay : (dots : List Dot) → OffsetsRise dots → Keeps dots dots
all_stay dots up = record {
  placed = numbered 0 dots;
  are = record {
    rising = numbered_rise 0 dots up;
    each = λ p c.
        let x = at_place 0 dots p c in
        rising_stays dots up p.place p.dot (ap (slice_get dots) (let e = x.place_is in let is : p.place ≡ x.place = omega (arith, e) in is) ∙ x.there);
    all = λ place d stays. subst (Contains (numbered 0 dots)) (λ k. record { place = (let e : 0 + place ≡ place = omega (arith) in e) k; dot = d }) (is_numbered 0 dots place d stays.there);
  };
  dots_are = dots_numbered 0 dots;
}

-- ---- the best of each offset and value

-- no dots have none
pub none_best : (best : BTreeMap (ℕ × ℤ) PlacedDot) → best.entries ≡ [] → AreBest [] best
none_best best e = record {
  found = λ offset value p is. absurd (not_Some p (sym is ∙ ap (lookup (is_at (value_cmp (offset, value)))) e));
  all = λ place d is. absurd (not_Some d (sym is));
}

get_front : (xs : List Dot) (x : Dot) (i : ℕ) (d : Dot) → slice_get xs i ≡ Some d → slice_get (xs ++ x ∷ []) i ≡ Some d
get_front [] x i d is = absurd (not_Some d (sym is))
get_front (y ∷ xs) x zero d is = is
get_front (y ∷ xs) x (suc i) d is = get_front xs x i d is

get_last : (xs : List Dot) (x : Dot) → slice_get (xs ++ x ∷ []) (length xs) ≡ Some x
get_last [] x = refl
get_last (y ∷ xs) x = get_last xs x

push_case : (xs : List Dot) (y x : Dot) (i : ℕ) (d : Dot) → (slice_get xs i ≡ Some d) ⊎ ((i ≡ length xs) × (x ≡ d)) → (slice_get (y ∷ xs) (suc i) ≡ Some d) ⊎ ((suc i ≡ length (y ∷ xs)) × (x ≡ d))
push_case xs y x i d (inl e) = inl e
push_case xs y x i d (inr e) = inr (ap suc e.0, e.1)

get_push : (xs : List Dot) (x : Dot) (i : ℕ) (d : Dot) → slice_get (xs ++ x ∷ []) i ≡ Some d → (slice_get xs i ≡ Some d) ⊎ ((i ≡ length xs) × (x ≡ d))
get_push [] x zero d is = inr (refl, same_Some x d is)
get_push [] x (suc i) d is = absurd (not_Some d (sym is))
get_push (y ∷ xs) x zero d is = inl is
get_push (y ∷ xs) x (suc i) d is = push_case xs y x i d (get_push xs x i d is)

abbrev pub key_of : Dot → ℕ × ℤ
key_of d = (d.item.offset, d.value)

then_both : (a b : Ordering) → ordering_then a b ≡ Equal → (a ≡ Equal) × (b ≡ Equal)
then_both Less b e = absurd cc
then_both Equal b e = (refl, e)
then_both Greater b e = absurd cc

exact_key : (a b : ℕ × ℤ) → value_cmp a b ≡ Equal → (a.0 ≡ b.0) × (a.1 ≡ b.1)
exact_key a b e = let h = then_both (nat_cmp a.0 b.0) (int_cmp a.1 b.1) e in (nat_cmp-IsAntisymmetric a.0 b.0 h.0, int_cmp-IsAntisymmetric a.1 b.1 h.1)

key_itself : (a : ℕ × ℤ) → eq_by_cmp value_cmp a a ≡ true
key_itself a = ap is_eq (λ i. ordering_then (tied_itself nat_cmp_total a.0 i) (tied_itself int_cmp_total a.1 i))

module _ (pre : List Dot) (d : Dot) (old : BTreeMap (ℕ × ℤ) PlacedDot) (best : AreBest pre old) where
  abbrev pub all_now : List Dot
  all_now = pre ++ d ∷ []

  -- a dot that stays does so with one more behind, which isn't of its offset and value or as which it is as good
  stays_on : (place : ℕ) (x : Dot) → Stays pre place x → (d.item.offset ≡ x.item.offset → d.value ≡ x.value → IsAsGood d.item x.item) → Stays all_now place x
  stays_on place x stays good = record {
    there = get_front pre d place x stays.there;
    best = λ other e ise o v. either other e o v (get_push pre d other e ise);
  }
    where
      either : (other : ℕ) (e : Dot) → e.item.offset ≡ x.item.offset → e.value ≡ x.value → (slice_get pre other ≡ Some e) ⊎ ((other ≡ length pre) × (d ≡ e)) → IsAsGood e.item x.item × (IsAsGood x.item e.item → place ≤ other)
      either other e o v (inl ise) = stays.best other e ise o v
      either other e o v (inr last) =
          let within = slice_get_within pre place x stays.there in
          let end = last.0 in
          let is = good (ap (λ (y : Dot). y.item.offset) last.1 ∙ o) (ap (λ (y : Dot). y.value) last.1 ∙ v) in
          (subst (λ (y : Dot). IsAsGood y.item x.item) last.1 is, λ _. omega (arith, within, end))

  -- the one that is kept is as good
  pub still_best : (f : PlacedDot) → get value_cmp old (key_of d) ≡ Some f → IsAsGood d.item f.dot.item → AreBest all_now old
  still_best f is good = record {
    found = λ offset value p got. found offset value p got;
    all = λ place e ise. all place e (get_push pre d place e ise);
  }
    where
      found : (offset : ℕ) (value : ℤ) (p : PlacedDot) → get value_cmp old (offset, value) ≡ Some p → Stays all_now p.place p.dot × (p.dot.item.offset ≡ offset) × (p.dot.value ≡ value)
      found offset value p got =
          let x = best.found offset value p got in (
            stays_on p.place p.dot x.0 (λ o v.
                let key : (offset, value) ≡ key_of d = λ i. ((sym x.1 ∙ sym o) i, (sym x.2 ∙ sym v) i) in
                let same : f ≡ p = same_Some f p (sym is ∙ ap (get value_cmp old) (sym key) ∙ got) in
                subst (λ (q : PlacedDot). IsAsGood d.item q.dot.item) same good),
            x.1,
            x.2,
          )

      all : (place : ℕ) (e : Dot) → (slice_get pre place ≡ Some e) ⊎ ((place ≡ length pre) × (d ≡ e)) → kept_of old e ≢ None
      all place e (inl ise) none = best.all place e ise none
      all place e (inr last) none = not_Some f (sym is ∙ ap (kept_of old) last.1 ∙ none)

  own : Beats pre d → Stays all_now (length pre) d
  own beats = record {
    there = get_last pre d;
    best = λ other e ise o v. either other e o v (get_push pre d other e ise);
  }
    where
      either : (other : ℕ) (e : Dot) → e.item.offset ≡ d.item.offset → e.value ≡ d.value → (slice_get pre other ≡ Some e) ⊎ ((other ≡ length pre) × (d ≡ e)) → IsAsGood e.item d.item × (IsAsGood d.item e.item → length pre ≤ other)
      either other e o v (inl ise) = let b = beats other e ise o v in (b.0, λ good. absurd (b.1 good))
      either other e o v (inr last) = let end = last.0 in (subst (λ (x : Dot). IsAsGood x.item d.item) last.1 (good_itself d.item), λ _. omega (arith, end))

  -- this one is better than all of its offset and value, and was put
  pub now_best : (new : BTreeMap (ℕ × ℤ) PlacedDot) (n : ℕ) → length pre ≡ n → Beats pre d → ((q : ℕ × ℤ) → get value_cmp new q ≡ cond (eq_by_cmp value_cmp (key_of d) q) (Some (record { place = n; dot = d })) (get value_cmp old q)) → AreBest all_now new
  now_best new n long beats put = record {
    found = λ offset value p got. found offset value p (eq_by_cmp value_cmp (key_of d) (offset, value)) refl (sym (put (offset, value)) ∙ got);
    all = λ place e ise. all place e (get_push pre d place e ise);
  }
    where
      found : (offset : ℕ) (value : ℤ) (p : PlacedDot) (b : Bool) → eq_by_cmp value_cmp (key_of d) (offset, value) ≡ b → cond (eq_by_cmp value_cmp (key_of d) (offset, value)) (Some (record { place = n; dot = d })) (get value_cmp old (offset, value)) ≡ Some p
          → Stays all_now p.place p.dot × (p.dot.item.offset ≡ offset) × (p.dot.value ≡ value)
      found offset value p true same got =
          let key = exact_key (key_of d) (offset, value) (is_equal (value_cmp (key_of d) (offset, value)) same) in
          let is : (record { place = n; dot = d }) ≡ p = same_Some (record { place = n; dot = d }) p (sym (ap (λ (b : Bool). cond b (Some (record { place = n; dot = d })) (get value_cmp old (offset, value))) same) ∙ got) in
          subst (λ (q : PlacedDot). Stays all_now q.place q.dot × (q.dot.item.offset ≡ offset) × (q.dot.value ≡ value)) is (subst (λ (k : ℕ). Stays all_now k d) long (own beats), key.0, key.1)
      found offset value p false other got =
          let x = best.found offset value p (sym (ap (λ (b : Bool). cond b (Some (record { place = n; dot = d })) (get value_cmp old (offset, value))) other) ∙ got) in (
            stays_on p.place p.dot x.0 (λ o v.
                let key : key_of d ≡ (offset, value) = λ i. ((o ∙ x.1) i, (v ∙ x.2) i) in
                let so : eq_by_cmp value_cmp (key_of d) (offset, value) ≡ true = ap (eq_by_cmp value_cmp (key_of d)) (sym key) ∙ key_itself (key_of d) in
                let nay : true ≡ false = sym so ∙ other in absurd cc),
            x.1,
            x.2,
          )

      keep : (b : Bool) (o : Option PlacedDot) → o ≢ None → cond b (Some (record { place = n; dot = d })) o ≡ None → ⊥
      keep true o some e = not_Some (record { place = n; dot = d }) e
      keep false o some e = some e

      all : (place : ℕ) (e : Dot) → (slice_get pre place ≡ Some e) ⊎ ((place ≡ length pre) × (d ≡ e)) → kept_of new e ≢ None
      all place e (inl ise) none = keep (eq_by_cmp value_cmp (key_of d) (key_of e)) (get value_cmp old (key_of e)) (best.all place e ise) (sym (put (key_of e)) ∙ none)
      all place e (inr last) none =
          not_Some (record { place = n; dot = d })
          (sym (put (key_of d) ∙ ap (λ (b : Bool). cond b (Some (record { place = n; dot = d })) (get value_cmp old (key_of d))) (key_itself (key_of d))) ∙ ap (kept_of new) last.1 ∙ none)

  -- it is so where the one that is kept isn't as good, and where none is kept
  beats_kept : (f : PlacedDot) → get value_cmp old (key_of d) ≡ Some f → (IsAsGood d.item f.dot.item → ⊥) → Beats pre d
  beats_kept f is not other e ise o v =
      let x = best.found d.item.offset d.value f is in
      let b = x.0.best other e ise (o ∙ sym x.1) (v ∙ sym x.2) in
      let fd = good_total d.item f.dot.item (sym x.1) not in
      (good_trans e.item f.dot.item d.item b.0 fd, λ de. not (good_trans d.item e.item f.dot.item de b.0))

  pub beats_none : get value_cmp old (key_of d) ≡ None → Beats pre d
  beats_none none other e ise o v =
      absurd (best.all other e ise (ap (get value_cmp old) (λ i. (o i, v i)) ∙ none))

  -- one that is kept is as good, or it isn't
  pub judged : (f : PlacedDot) (b : Bool) → get value_cmp old (key_of d) ≡ Some f → b ≡ is_as_good d.item f.dot.item → MatchBool b (AreBest all_now old) (Beats pre d)
  judged f b is e = by b (is_as_good d.item f.dot.item) e refl (good_test d.item f.dot.item (sym (best.found d.item.offset d.value f is).1))
    where
      by : (b t : Bool) → b ≡ t → is_as_good d.item f.dot.item ≡ t → MatchBool (is_as_good d.item f.dot.item) (IsAsGood d.item f.dot.item) (IsAsGood d.item f.dot.item → ⊥) → MatchBool b (AreBest all_now old) (Beats pre d)
      by true true be te good = still_best f is (subst (λ (x : Bool). MatchBool x (IsAsGood d.item f.dot.item) (IsAsGood d.item f.dot.item → ⊥)) te good)
      by false false be te not = beats_kept f is (subst (λ (x : Bool). MatchBool x (IsAsGood d.item f.dot.item) (IsAsGood d.item f.dot.item → ⊥)) te not)
      by true false be te x = absurd (let w = be in cc)
      by false true be te x = absurd (let w = be in cc)

-- ---- those that stay

kept_is : (o : Option PlacedDot) (p : PlacedDot) → is_kept o p.place ≡ true → (q : PlacedDot) × (o ≡ Some q) × (q.place ≡ p.place)
kept_is None p e = absurd (let w : false ≡ true = e in cc)
kept_is (Some q) p e = (q, refl, nat_eq_is q.place p.place e)

is_the_kept : (o : Option PlacedDot) (q : PlacedDot) (place : ℕ) → o ≡ Some q → q.place ≡ place → is_kept o place ≡ true
is_the_kept o q place e same = ap (λ x. is_kept x place) e ∙ nat_eq-same q.place place same

-- the best of dots in order are those that stay
pub best_stay : (dots : List Dot) (placed : List PlacedDot) (best : BTreeMap (ℕ × ℤ) PlacedDot) → ArePlaced dots placed → AreBest dots best → AreKept dots (filter (is_best best) placed)
best_stay dots placed best are is = record {
  rising = AllPairs-filter (λ (p q : PlacedDot). dot_cmp p q ≡ Less) (is_best best) placed are.rising;
  each = λ p c.
      let f = in_filter (is_best best) placed p c in
      let k = kept_is (kept_of best p.dot) p f.1 in
      let x = is.found p.dot.item.offset p.dot.value k.0 k.1 in
      let one : k.0.dot ≡ p.dot = same_Some k.0.dot p.dot (sym x.0.there ∙ ap (slice_get dots) k.2 ∙ are.each p f.0) in
      subst (λ (y : ℕ × Dot). Stays dots y.0 y.1) (λ i. (k.2 i, one i)) x.0;
  all = λ place d stays.
      to_filter (is_best best) placed (record { place = place; dot = d }) (are.all place d stays.there) (only place d stays (kept_of best d) refl);
}
  where
    -- two that stay are at one place
    only : (place : ℕ) (d : Dot) → Stays dots place d → (o : Option PlacedDot) → kept_of best d ≡ o → is_kept (kept_of best d) place ≡ true
    only place d stays None none = absurd (is.all place d stays.there none)
    only place d stays (Some q) some =
        let x = is.found d.item.offset d.value q some in
        let a = stays.best q.place q.dot x.0.there x.1 x.2 in
        let b = x.0.best place d stays.there (sym x.1) (sym x.2) in
        let le = a.1 b.0 in let ge = b.1 a.0 in
        is_the_kept (kept_of best d) q place some (omega (arith, le, ge))

-- of dots in any order the best stay
pub best_kept : (dots : List Dot) (placed : List PlacedDot) (best : BTreeMap (ℕ × ℤ) PlacedDot) (kept : List Dot) → ArePlaced dots placed → AreBest dots best → kept ≡ map (λ (p : PlacedDot). p.dot) (filter (is_best best) placed) → Keeps dots kept
best_kept dots placed best kept are is e = record { placed = filter (is_best best) placed; are = best_stay dots placed best are is; dots_are = e }

pub match_true : (P Q : Type 0) (b : Bool) → b ≡ true → MatchBool b P Q → P
match_true P Q true e p = p
match_true P Q false e p = absurd (let w : false ≡ true = e in cc)

pub match_false : (P Q : Type 0) (b : Bool) → b ≡ false → MatchBool b P Q → Q
match_false P Q false e q = q
match_false P Q true e q = absurd (let w : true ≡ false = e in cc)
