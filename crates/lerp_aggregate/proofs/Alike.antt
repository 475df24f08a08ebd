-- Groups of series that are alike make the same points.
use Rattle.std.proofs.Common.{◌≡◌, ℕ, ℤ, Bool, true, false, cond, ◌||◌, List, [], ◌∷◌, Option, None, Some, is_some, refl, ap, ◌∙◌}
use Rattle.std.specs.List.{AllZip, cons_option, filter_map}
use Rattle.tsd_base.specs.declared.kinds.Aggregator.{Aggregator}
use Rattle.lerp_aggregate.specs.Aggregation.{value_at, value_or_between, given_at, combined, interpolates, aggregated}
use Rattle.lerp_aggregate.specs.Interpolation.{between}
use Rattle.lerp_aggregate.specs.Laws.{AreAlike}
use Rattle.lerp_aggregate.proofs.Nearest.{before_alike, after_alike}
use Rattle.lerp_aggregate.proofs.Same.{aggregated_same, has_time}

or_between_alike : (o : Option ℤ) (x y : List (ℕ × ℤ)) (t : ℕ) → AreAlike x y → value_or_between o x t ≡ value_or_between o y t
or_between_alike (Some value) x y t alike = refl
or_between_alike None x y t alike = λ i. between (before_alike x y t alike i) (after_alike x y t alike i) t

given_alike : (b : Bool) (x y : List (ℕ × ℤ)) (t : ℕ) → AreAlike x y → given_at b x t ≡ given_at b y t
given_alike true x y t alike = ap (λ o. value_or_between o x t) (alike t) ∙ or_between_alike (value_at y t) x y t alike
given_alike false x y t alike = alike t

values_alike : (b : Bool) (xs ys : List (List (ℕ × ℤ))) (t : ℕ) → AllZip AreAlike xs ys → filter_map (λ series. given_at b series t) xs ≡ filter_map (λ series. given_at b series t) ys
values_alike b [] [] t h = refl
values_alike b [] (y ∷ ys) t h = absurd h
values_alike b (x ∷ xs) [] t h = absurd h
values_alike b (x ∷ xs) (y ∷ ys) t h = λ i. cons_option (given_alike b x y t h.0 i) (values_alike b xs ys t h.1 i)

time_alike : (xs ys : List (List (ℕ × ℤ))) (t : ℕ) → AllZip AreAlike xs ys → has_time xs t ≡ has_time ys t
time_alike [] [] t h = refl
time_alike [] (y ∷ ys) t h = absurd h
time_alike (x ∷ xs) [] t h = absurd h
time_alike (x ∷ xs) (y ∷ ys) t h = λ i. is_some (h.0 t i) || time_alike xs ys t h.1 i

pub aggregated_alike : (how : Aggregator) (xs ys : List (List (ℕ × ℤ))) → AllZip AreAlike xs ys → aggregated how xs ≡ aggregated how ys
aggregated_alike how xs ys h = aggregated_same how xs ys (λ t i. cond (time_alike xs ys t h i) (Some (combined how (values_alike (interpolates how) xs ys t h i))) None)
