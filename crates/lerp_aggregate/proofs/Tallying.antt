-- What a tally counts.
use Rattle.std.proofs.Common.{◌≡◌, ℕ, ◌+◌, ◌-◌, ◌*◌, ◌^◌, ◌<◌, ℤ, pos, negsuc, neg_ℤ, ◌+ℤ◌, ◌≤ℤ◌, true, List, [], ◌∷◌, ◌++◌, length, replicate, zero, suc, refl, sym, ap, subst, ◌∙◌, fold, All, FitsSigned, w64, to_z, of_z, arith, append-nil, length-append}
use Rattle.std.specs.Int.{w128, int_min, int_max}
use Rattle.std.proofs.lemmas.Bool.{ltb-true, lt-ltb}
use Rattle.std.proofs.lemmas.Int.{ints, clamps, to_z-of_z}
use Rattle.std.proofs.lemmas.List.Elements.{All-append, All-head, All-tail, All-push, All-replicate}
use Rattle.std.proofs.lemmas.List.{length-replicate}
use Rattle.std.proofs.lemmas.List.Sums.{fold-append, fold_push}
use Rattle.lerp_aggregate.specs.declared.tally.Tally.{Tally}
use Rattle.lerp_aggregate.specs.Aggregation.{fits, total, least, greatest}
use Rattle.lerp_aggregate.specs.Tally.{Adds, Counts, HasRoom}

-- the values of an i64 are those that fit
pub fits-from_range : (z : ℤ) → FitsSigned w64 z → fits z ≡ true
fits-from_range (pos n) h = lt-ltb _ _ h.sfits
fits-from_range (negsuc n) h = lt-ltb _ _ h.sfits

pub range_from_fits : (z : ℤ) → fits z ≡ true → FitsSigned w64 z
range_from_fits (pos n) h = record { sfits = ltb-true _ _ h }
range_from_fits (negsuc n) h = record { sfits = ltb-true _ _ h }

-- not further from 0 than n values of an i64 can be
abbrev pub IsWithin : ℕ → ℤ → Type 0
IsWithin n z = (neg_ℤ (pos (n * 2 ^ 63)) ≤ℤ z) × (z ≤ℤ pos (n * (2 ^ 63 - 1)))

fold_within : (values : List ℤ) (a : ℤ) (m n : ℕ) → IsWithin m a → All (λ v. fits v ≡ true) values → n ≡ m + length values → IsWithin n (fold ◌+ℤ◌ a values)
fold_within [] a m n h all count = (omega (arith, ints, h.0, h.1), omega (arith, ints, h.0, h.1))
fold_within (v ∷ values) a m n h all count =
    let here : FitsSigned w64 v = range_from_fits v (All-head (λ v. fits v ≡ true) v values all) in
    fold_within values (a +ℤ v) (m + 1) n (omega (arith, ints, h.0, h.1), omega (arith, ints, h.0, h.1)) (All-tail (λ v. fits v ≡ true) v values all) (omega (arith, count))

pub total_within : (values : List ℤ) → All (λ v. fits v ≡ true) values → IsWithin (length values) (total values)
total_within values all = fold_within values (pos 0) 0 (length values) (omega (arith, ints), omega (arith, ints)) all (omega arith)

-- the least of values that an i64 has, begun at the greatest i64
pub fold_min_is : (values : List ℤ) → 0 < length values → All (λ v. fits v ≡ true) values → fold int_min (pos (2 ^ 63 - 1)) values ≡ least values
fold_min_is [] some all = absurd (omega arith)
fold_min_is (v ∷ values) some all = let here : FitsSigned w64 v = range_from_fits v (All-head (λ v. fits v ≡ true) v values all) in ap (λ a. fold int_min a values) (omega (arith, ints, clamps))

pub fold_max_is : (values : List ℤ) → 0 < length values → All (λ v. fits v ≡ true) values → fold int_max (negsuc (2 ^ 63 - 1)) values ≡ greatest values
fold_max_is [] some all = absurd (omega arith)
fold_max_is (v ∷ values) some all = let here : FitsSigned w64 v = range_from_fits v (All-head (λ v. fits v ≡ true) v values all) in ap (λ a. fold int_max a values) (omega (arith, ints, clamps))

-- one value more
pub counts_push : (old new : Tally) (values : List ℤ) (v : ℤ) → Counts old values → FitsSigned w64 v → new.count ≡ old.count + 1 → new.sum ≡ old.sum +ℤ v → new.least ≡ int_min old.least v → new.greatest ≡ int_max old.greatest v → Counts new (values ++ v ∷ [])
counts_push old new values v h fit count sum least greatest = record {
  fit = All-push (λ v. fits v ≡ true) values v h.fit (fits-from_range v fit);
  count = count ∙ ap (λ n. n + 1) h.count ∙ sym (length-append values (v ∷ []));
  sum = sum ∙ ap (λ z. z +ℤ v) h.sum ∙ sym (fold_push ◌+ℤ◌ (pos 0) values v);
  least = least ∙ ap (λ z. int_min z v) h.least ∙ sym (fold_push int_min (pos (2 ^ 63 - 1)) values v);
  greatest = greatest ∙ ap (λ z. int_max z v) h.greatest ∙ sym (fold_push int_max (negsuc (2 ^ 63 - 1)) values v);
}

-- there is room in 128 bits for one more value
pub sum_fits : (old : Tally) (v : ℤ) → HasRoom old 1 → FitsSigned w64 v → FitsSigned w128 (old.sum +ℤ v)
sum_fits old v room fit =
    let within = total_within room.values room.counts.fit in
    let is = room.counts.sum in
    let few = room.few in
    omega (arith, ints, within.0, within.1, is, few)

-- as it is computed
pub counts_added : (old : Tally) (values : List ℤ) (v low high wide : ℤ) → Counts old values → HasRoom old 1 → FitsSigned w64 v → FitsSigned w64 old.least → FitsSigned w64 old.greatest → FitsSigned w64 low → FitsSigned w64 high → FitsSigned w128 old.sum
    → low ≡ int_min (to_z w64 (of_z w64 old.least)) (to_z w64 (of_z w64 v)) → high ≡ int_max (to_z w64 (of_z w64 old.greatest)) (to_z w64 (of_z w64 v)) → wide ≡ to_z w64 (of_z w64 v)
    → Counts (record { count = old.count + 1; sum = to_z w128 (of_z w128 (to_z w128 (of_z w128 old.sum) +ℤ to_z w128 (of_z w128 wide))); least = to_z w64 (of_z w64 low); greatest = to_z w64 (of_z w64 high) }) (values ++ v ∷ [])
counts_added old values v low high wide h room fit f g fl fh fs low_is high_is wide_is =
    let sum_fit = sum_fits old v room fit in
    let sum_is : to_z w128 (of_z w128 (to_z w128 (of_z w128 old.sum) +ℤ to_z w128 (of_z w128 wide))) ≡ old.sum +ℤ v = omega (arith, ints) in
    counts_push old _ values v h fit refl sum_is
    (to_z-of_z w64 low fl ∙ low_is ∙ (λ i. int_min (to_z-of_z w64 old.least f i) (to_z-of_z w64 v fit i)))
    (to_z-of_z w64 high fh ∙ high_is ∙ (λ i. int_max (to_z-of_z w64 old.greatest g i) (to_z-of_z w64 v fit i)))

-- how far from 0 the sum is
pub sum_within : (tally : Tally) (n : ℕ) → HasRoom tally n → IsWithin tally.count tally.sum × (tally.count < 2 ^ 63)
sum_within tally n room =
    let few = room.few in
    let count = room.counts.count in
    (subst (λ (m : ℕ). IsWithin m tally.sum) (sym count) (subst (IsWithin (length room.values)) (sym room.counts.sum) (total_within room.values room.counts.fit)), omega (arith, few, count))

-- zeros
add_zeros : (a : ℤ) (n : ℕ) → fold ◌+ℤ◌ a (replicate n (pos 0)) ≡ a
add_zeros a zero = refl
add_zeros a (suc n) = let same : a +ℤ pos 0 ≡ a = omega (arith, ints) in ap (λ b. fold ◌+ℤ◌ b (replicate n (pos 0))) same ∙ add_zeros a n

min_zeros : (a : ℤ) (n : ℕ) → a ≤ℤ pos 0 → fold int_min a (replicate n (pos 0)) ≡ a
min_zeros a zero low = refl
min_zeros a (suc n) low = let same : int_min a (pos 0) ≡ a = omega (arith, ints, clamps, low) in ap (λ b. fold int_min b (replicate n (pos 0))) same ∙ min_zeros a n low

max_zeros : (a : ℤ) (n : ℕ) → pos 0 ≤ℤ a → fold int_max a (replicate n (pos 0)) ≡ a
max_zeros a zero high = refl
max_zeros a (suc n) high = let same : int_max a (pos 0) ≡ a = omega (arith, ints, clamps, high) in ap (λ b. fold int_max b (replicate n (pos 0))) same ∙ max_zeros a n high

fit_zeros : (values : List ℤ) (n : ℕ) → All (λ v. fits v ≡ true) values → All (λ v. fits v ≡ true) (values ++ replicate n (pos 0))
fit_zeros values n all = All-append (λ v. fits v ≡ true) values (replicate n (pos 0)) all (All-replicate (λ v. fits v ≡ true) n (pos 0) refl)

-- so many zeros more, of which there is one
pub counts_zeros : (old new : Tally) (values : List ℤ) (n : ℕ) → Counts old values → new.count ≡ old.count + suc n → new.sum ≡ old.sum → new.least ≡ int_min old.least (pos 0) → new.greatest ≡ int_max old.greatest (pos 0) → Counts new (values ++ replicate (suc n) (pos 0))
counts_zeros old new values n h count sum least greatest = record {
  fit = fit_zeros values (suc n) h.fit;
  count = let is = h.count in omega (arith, count, is, length-append values (replicate (suc n) (pos 0)), length-replicate (suc n) (pos 0));
  sum = sum ∙ h.sum ∙ sym (fold-append ◌+ℤ◌ (pos 0) values (replicate (suc n) (pos 0)) ∙ add_zeros (total values) (suc n));
  least = least ∙ ap (λ z. int_min z (pos 0)) h.least ∙ sym (fold-append int_min (pos (2 ^ 63 - 1)) values (replicate (suc n) (pos 0)) ∙ min_zeros (int_min (fold int_min (pos (2 ^ 63 - 1)) values) (pos 0)) n (omega (arith, ints, clamps)));
  greatest = greatest ∙ ap (λ z. int_max z (pos 0)) h.greatest ∙ sym (fold-append int_max (negsuc (2 ^ 63 - 1)) values (replicate (suc n) (pos 0)) ∙ max_zeros (int_max (fold int_max (negsuc (2 ^ 63 - 1)) values) (pos 0)) n (omega (arith, ints, clamps)));
}

-- no value more
pub counts_no_more : (tally : Tally) (n : ℕ) → n ≡ 0 → Adds tally tally (replicate n (pos 0))
counts_no_more tally n none = record { adds = λ values h. subst (Counts tally) (sym (append-nil values) ∙ ap (λ k. values ++ replicate k (pos 0)) (sym none)) h }

-- zeros up to so many values
pub fills : (old new : Tally) (count : ℕ) → old.count < count → new.count ≡ count → new.sum ≡ old.sum → new.least ≡ int_min old.least (pos 0) → new.greatest ≡ int_max old.greatest (pos 0) → Adds old new (replicate (count - old.count) (pos 0))
fills old new count more is sum least greatest = record {
  adds = λ values h.
      let n : ℕ = count - old.count - 1 in
      let some : suc n ≡ count - old.count = omega (arith, more) in
      subst (λ (k : ℕ). Counts new (values ++ replicate k (pos 0))) some (counts_zeros old new values n h (omega (arith, more, is)) sum least greatest);
}
