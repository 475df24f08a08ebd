-- What stands at a time among the points of a group, and when two groups make the same points.
use Rattle.std.proofs.Common.{◌≡◌, ℕ, ℤ, Bool, true, false, cond, ◌||◌, eqb, List, [], ◌∷◌, ◌++◌, map, Option, None, Some, is_some, refl, sym, ap, ◌∙◌, ⊎_elim}
use Rattle.std.specs.Cmp.{unsigned_tied, unsigned_ties, nat_cmp_total}
use Rattle.std.specs.FinMap.{from_entries, find, contains_key-keys, get-from_entries}
use Rattle.std.specs.List.{flat_map, list_any}
use Rattle.std.specs.Ordering.{nat_cmp}
use Rattle.std.proofs.lemmas.Bool.{eqb-true, cond-true, cond-false, cases_Bool}
use Rattle.tsd_base.specs.declared.kinds.Aggregator.{Aggregator}
use Rattle.lerp_aggregate.specs.Aggregation.{value_at, values_at, times_of, combined, points_of, overflows, points_unless, aggregated}
use Rattle.std.specs.List as lists
use Rattle.lerp_aggregate.proofs.Rising.{Rises, Rises-keys, same_points}

abbrev readings : List (List (ℕ × ℤ)) → List (ℕ × ℤ)
readings group = flat_map (λ series. series) group

-- whether some series has a value at a time
abbrev pub has_time : List (List (ℕ × ℤ)) → ℕ → Bool
has_time group t = list_any (λ series. is_some (value_at series t)) group

-- what is wanted at a time
abbrev pub wanted_at : Aggregator → List (List (ℕ × ℤ)) → ℕ → Option ℤ
wanted_at how group t = cond (has_time group t) (Some (combined how (values_at how group t))) None

find_is : (es : List (ℕ × ℤ)) (t : ℕ) → find nat_cmp t es ≡ value_at es t
find_is [] t = refl
find_is (e ∷ es) t = λ i. cond (unsigned_tied t e.0 i) (Some e.1) (find_is es t i)

value_at-append : (xs ys : List (ℕ × ℤ)) (t : ℕ) → is_some (value_at (xs ++ ys) t) ≡ (is_some (value_at xs t) || is_some (value_at ys t))
value_at-append [] ys t = refl
value_at-append (x ∷ xs) ys t =
    elim (eqb t x.0) as (λ b. is_some (cond b (Some x.1) (value_at (xs ++ ys) t)) ≡ (is_some (cond b (Some x.1) (value_at xs t)) || is_some (value_at ys t))) [
      | true ↦ refl
      | false ↦ value_at-append xs ys t
    ]

has_reading : (group : List (List (ℕ × ℤ))) (t : ℕ) → is_some (value_at (readings group) t) ≡ has_time group t
has_reading [] t = refl
has_reading (series ∷ group) t = value_at-append series (readings group) t ∙ ap (λ b. is_some (value_at series t) || b) (has_reading group t)

-- what stands at a time among points made at these times
pub value_at_made : (f : ℕ → ℤ) (times : List ℕ) (t : ℕ) → value_at (map (λ u. (u, f u)) times) t ≡ cond (list_any (eqb t) times) (Some (f t)) None
value_at_made f [] t = refl
value_at_made f (u ∷ times) t =
    let at = λ (b : Bool). cond (b || list_any (eqb t) times) (Some (f t)) None in
    ⊎_elim
    (λ (a : eqb t u ≡ true). cond-true _ _ _ a ∙ ap (λ k. Some (f k)) (sym (eqb-true t u a)) ∙ sym (ap at a))
    (λ (b : eqb t u ≡ false). cond-false _ _ _ b ∙ value_at_made f times t ∙ sym (ap at b))
    (cases_Bool (eqb t u))

pub Rises-points_of : (how : Aggregator) (group : List (List (ℕ × ℤ))) → Rises (points_of how group)
Rises-points_of how group = Rises-keys (λ t. combined how (values_at how group t)) (from_entries {R = nat_cmp} (readings group))

-- the points of a group say what is wanted at each time
pub value_at-points_of : (how : Aggregator) (group : List (List (ℕ × ℤ))) (t : ℕ) → value_at (points_of how group) t ≡ wanted_at how group t
value_at-points_of how group t =
    let has : list_any (eqb t) (times_of group) ≡ has_time group t =
    ap (λ test. list_any test (times_of group)) (λ i k. unsigned_ties t k i) ∙ sym (contains_key-keys (from_entries {R = nat_cmp} (readings group)) t) ∙ ap is_some (get-from_entries nat_cmp_total (readings group) t ∙ find_is (readings group) t) ∙ has_reading group t in
    value_at_made (λ u. combined how (values_at how group u)) (times_of group) t ∙ ap (λ b. cond b (Some (combined how (values_at how group t))) None) has

-- so rising points that say the same are those points
pub points_are : (how : Aggregator) (group : List (List (ℕ × ℤ))) (dots : List (ℕ × ℤ)) → Rises dots → ((t : ℕ) → value_at dots t ≡ wanted_at how group t) → dots ≡ points_of how group
points_are how group dots rises is = same_points dots (points_of how group) rises (Rises-points_of how group) (λ t. is t ∙ sym (value_at-points_of how group t))

-- and groups of which the same is wanted make the same points
pub aggregated_same : (how : Aggregator) (xs ys : List (List (ℕ × ℤ))) → ((t : ℕ) → wanted_at how xs t ≡ wanted_at how ys t) → aggregated how xs ≡ aggregated how ys
aggregated_same how xs ys same =
    ap (λ points. points_unless (lists.find (λ (point : ℕ × ℤ). overflows how point.1) points) points)
    (points_are how ys (points_of how xs) (Rises-points_of how xs) (λ t. value_at-points_of how xs t ∙ same t))
