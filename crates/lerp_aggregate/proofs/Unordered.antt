-- A group makes the same points in any order of its series.
use Rattle.std.proofs.Common.{◌≡◌, ℕ, ◌+◌, ℤ, pos, ◌+ℤ◌, Bool, true, false, ◌||◌, cond, List, [], ◌∷◌, length, fold, Option, None, Some, is_some, refl, sym, ap, ◌∙◌, arith}
use Rattle.std.specs.Prelude.{int_div, int_le}
use Rattle.std.specs.Int.{int_min, int_max}
use Rattle.std.specs.List.{cons_option, filter_map, list_any, sum_by}
use Rattle.std.specs.List.Sorted.{IsPermutation}
use Rattle.std.proofs.lemmas.Bool.{false≢true}
use Rattle.std.proofs.lemmas.Int.{ints}
use Rattle.std.proofs.lemmas.List.Sorted.{sum_by-IsPermutation, list_any-IsPermutation}
use Rattle.std.proofs.lemmas.List.Sums.{sum_by-cons}
use borrow.Author.Differences.{up, down, same_in}
use Rattle.tsd_base.specs.declared.kinds.Aggregator.{Aggregator}
use Rattle.tsd_base.specs.declared.kinds.Aggregator.TheVariants.{Sum, Min, Max, Avg, Count, Zimsum, Mimmin, Mimmax, NoneOf}
use Rattle.lerp_aggregate.specs.Aggregation.{value_at, values_at, given_at, interpolates, total, least, greatest, combined, aggregated}
use Rattle.lerp_aggregate.proofs.Same.{aggregated_same}

-- a total by its parts above and below 0
fold_parts : (values : List ℤ) (a : ℤ) → up (fold ◌+ℤ◌ a values) + down a + sum_by down values ≡ down (fold ◌+ℤ◌ a values) + up a + sum_by up values
fold_parts [] a = omega arith
fold_parts (v ∷ values) a =
    omega (arith, ints, fold_parts values (a +ℤ v), sum_by-cons down v values, sum_by-cons up v values)

or_assoc : (a b c : Bool) → ((a || b) || c) ≡ (a || (b || c))
or_assoc true b c = refl
or_assoc false b c = refl

or_nothing : (a : Bool) → a ≡ (a || false)
or_nothing true = refl
or_nothing false = refl

min-test : (m a v : ℤ) → int_le (int_min a v) m ≡ (int_le a m || int_le v m)
min-test m a v = grind (arith, ints)

max-test : (m a v : ℤ) → int_le m (int_max a v) ≡ (int_le m a || int_le m v)
max-test m a v = grind (arith, ints)

-- the least value is at most a bound where one of the values is
fold_min-test : (m a : ℤ) (values : List ℤ) → int_le (fold int_min a values) m ≡ (int_le a m || list_any (λ v. int_le v m) values)
fold_min-test m a [] = or_nothing (int_le a m)
fold_min-test m a (v ∷ values) =
    fold_min-test m (int_min a v) values ∙ ap (λ b. b || list_any (λ v. int_le v m) values) (min-test m a v) ∙ or_assoc (int_le a m) (int_le v m) (list_any (λ v. int_le v m) values)

-- the greatest value is at least a bound where one of the values is
fold_max-test : (m a : ℤ) (values : List ℤ) → int_le m (fold int_max a values) ≡ (int_le m a || list_any (λ v. int_le m v) values)
fold_max-test m a [] = or_nothing (int_le m a)
fold_max-test m a (v ∷ values) =
    fold_max-test m (int_max a v) values ∙ ap (λ b. b || list_any (λ v. int_le m v) values) (max-test m a v) ∙ or_assoc (int_le m a) (int_le m v) (list_any (λ v. int_le m v) values)

le_itself : (a : ℤ) → int_le a a ≡ true
le_itself a = grind (arith, ints)

le_both : (a b : ℤ) → int_le a b ≡ true → int_le b a ≡ true → a ≡ b
le_both a b h k = grind (arith, ints)

none_of_none : (b c : Bool) → false ≡ (b || c) → b ≡ true → ⊥
none_of_none true c e h = false≢true e
none_of_none false c e h = false≢true h

least_same : (vs ws : List ℤ) → ((m : ℤ) → list_any (λ v. int_le v m) vs ≡ list_any (λ v. int_le v m) ws) → least vs ≡ least ws
least_same [] [] same = refl
least_same [] (w ∷ ws) same = absurd (none_of_none _ _ (same w) (le_itself w))
least_same (v ∷ vs) [] same = absurd (none_of_none _ _ (sym (same v)) (le_itself v))
least_same (v ∷ vs) (w ∷ ws) same =
    let a = least (v ∷ vs) in
    let b = least (w ∷ ws) in
    le_both a b
    (fold_min-test b v vs ∙ same b ∙ sym (fold_min-test b w ws) ∙ le_itself b)
    (fold_min-test a w ws ∙ sym (same a) ∙ sym (fold_min-test a v vs) ∙ le_itself a)

greatest_same : (vs ws : List ℤ) → ((m : ℤ) → list_any (λ v. int_le m v) vs ≡ list_any (λ v. int_le m v) ws) → greatest vs ≡ greatest ws
greatest_same [] [] same = refl
greatest_same [] (w ∷ ws) same = absurd (none_of_none _ _ (same w) (le_itself w))
greatest_same (v ∷ vs) [] same = absurd (none_of_none _ _ (sym (same v)) (le_itself v))
greatest_same (v ∷ vs) (w ∷ ws) same =
    let a = greatest (v ∷ vs) in
    let b = greatest (w ∷ ws) in
    le_both a b
    (fold_max-test a w ws ∙ sym (same a) ∙ sym (fold_max-test a v vs) ∙ le_itself a)
    (fold_max-test b v vs ∙ same b ∙ sym (fold_max-test b w ws) ∙ le_itself b)

length_is : (vs : List ℤ) → length vs ≡ sum_by (λ v. 1) vs
length_is [] = refl
length_is (v ∷ vs) = let rest = length_is vs in omega (arith, rest, sum_by-cons (λ (v : ℤ). 1) v vs)

total_same : (vs ws : List ℤ) → ((part : ℤ → ℕ) → sum_by part vs ≡ sum_by part ws) → total vs ≡ total ws
total_same vs ws same = same_in _ _ (omega (arith, fold_parts vs (pos 0), fold_parts ws (pos 0), same up, same down))

-- values with the same sums and tests make the same
pub combined_same : (how : Aggregator) (vs ws : List ℤ) → ((part : ℤ → ℕ) → sum_by part vs ≡ sum_by part ws) → ((test : ℤ → Bool) → list_any test vs ≡ list_any test ws) → combined how vs ≡ combined how ws
combined_same Sum vs ws sums tests = total_same vs ws sums
combined_same Min vs ws sums tests = least_same vs ws (λ m. tests (λ v. int_le v m))
combined_same Max vs ws sums tests = greatest_same vs ws (λ m. tests (λ v. int_le m v))
combined_same Avg vs ws sums tests = λ i. int_div (total_same vs ws sums i) (pos ((length_is vs ∙ sums (λ v. 1) ∙ sym (length_is ws)) i))
combined_same Count vs ws sums tests = ap pos (length_is vs ∙ sums (λ v. 1) ∙ sym (length_is ws))
combined_same Zimsum vs ws sums tests = total_same vs ws sums
combined_same Mimmin vs ws sums tests = least_same vs ws (λ m. tests (λ v. int_le v m))
combined_same Mimmax vs ws sums tests = greatest_same vs ws (λ m. tests (λ v. int_le m v))
combined_same NoneOf vs ws sums tests = least_same vs ws (λ m. tests (λ v. int_le v m))

-- a sum over the values is one over the series, and so is a test
part_of : (ℤ → ℕ) → Option ℤ → ℕ
part_of part None = 0
part_of part (Some v) = part v

test_of : (ℤ → Bool) → Option ℤ → Bool
test_of test None = false
test_of test (Some v) = test v

module _ {S : Type 0} (gives : S → Option ℤ) where
  sum_of_given : (part : ℤ → ℕ) (group : List S) → sum_by part (filter_map gives group) ≡ sum_by (λ s. part_of part (gives s)) group
  unfolding part_of
  sum_of_given part [] = refl
  sum_of_given part (s ∷ group) =
      elim (gives s) as (λ o. sum_by part (cons_option o (filter_map gives group)) ≡ part_of part o + sum_by (λ s. part_of part (gives s)) group) [
        | None ↦ omega (arith, sum_of_given part group)
        | Some v ↦ sum_by-cons part v (filter_map gives group) ∙ ap (λ n. part v + n) (sum_of_given part group)
      ] ∙ sym (sum_by-cons (λ s. part_of part (gives s)) s group)

  test_of_given : (test : ℤ → Bool) (group : List S) → list_any test (filter_map gives group) ≡ list_any (λ s. test_of test (gives s)) group
  unfolding test_of
  test_of_given test [] = refl
  test_of_given test (s ∷ group) =
      elim (gives s) as (λ o. list_any test (cons_option o (filter_map gives group)) ≡ (test_of test o || list_any (λ s. test_of test (gives s)) group)) [
        | None ↦ test_of_given test group
        | Some v ↦ ap (λ b. test v || b) (test_of_given test group)
      ]

pub aggregated_unordered : (how : Aggregator) (xs ys : List (List (ℕ × ℤ))) → IsPermutation xs ys → aggregated how xs ≡ aggregated how ys
aggregated_unordered how xs ys moved = aggregated_same how xs ys (λ t i. cond (list_any-IsPermutation (λ series. is_some (value_at series t)) xs ys moved i) (Some (same t i)) None) where
  same : (t : ℕ) → combined how (values_at how xs t) ≡ combined how (values_at how ys t)
  same t =
      let gives = λ (s : List (ℕ × ℤ)). given_at (interpolates how) s t in
      combined_same how (values_at how xs t) (values_at how ys t)
      (λ part. sum_of_given gives part xs ∙ sym (sum_by-IsPermutation (λ s. part_of part (gives s)) xs ys moved) ∙ sym (sum_of_given gives part ys))
      (λ test. test_of_given gives test xs ∙ list_any-IsPermutation (λ s. test_of test (gives s)) xs ys moved ∙ sym (test_of_given gives test ys))
