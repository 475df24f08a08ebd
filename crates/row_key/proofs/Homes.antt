-- The region of a row.
use Rattle.std.proofs.Common.{◌≡◌, ℕ, zero, suc, ◌+◌, ◌-◌, ◌%◌, ◌<◌, ◌≤◌, Bool, true, false, List, [], ◌∷◌, ◌++◌, length, slice_index, slice_index_or, refl, ap, ◌∙◌, arith, nat_eq, mod-lt}
use Rattle.std.specs.Prelude.{if◌then◌else◌}
use Rattle.row_key.specs.declared.tables.Table.TheVariants.{Ids, Names, Points}
use Rattle.row_key.specs.declared.regions.TheConstants.{NAME_REGIONS}
use Rattle.row_key.specs.Key.{IsWidth, id_bytes}
use Rattle.row_key.specs.Regions.{name_region, ids_region, last_byte, metric_byte, RegionsEnd, MetricsAreWhole}
use Rattle.row_key.proofs.EachWidth.{at_width}
use Rattle.row_key.proofs.Once.{key_parts}

few_names : (b : ℕ) → name_region b < 5
few_names b = grind (arith)

few_ids : (row : List ℕ) → ids_region row < 5
few_ids [] = omega arith
few_ids (b ∷ []) = at (nat_eq b 0) (few_names b)
  where
    at : (t : Bool) → name_region b < 5 → (if t then 0 else name_region b) < 5
    at true lt = omega arith
    at false lt = lt
few_ids (b ∷ c ∷ bs) = few_names b

pub few_regions : RegionsEnd
few_regions w D Ids row some = let f = few_ids row in omega (arith, f, some)
few_regions w D Names row some = let f : last_byte row % 4 < 4 = omega arith in omega (arith, f, some)
few_regions w D Points row some = let f = mod-lt (metric_byte w row) {m = D} (omega (arith, some)) in omega (arith, f)

-- the last byte of an id
abbrev EndsLow : ℕ → Type 0
EndsLow width = (x : ℕ) (r : List ℕ) → slice_index (id_bytes width x ++ r) (width - 1) ≡ x % 256

ends_low : (width : ℕ) → IsWidth width → EndsLow width
ends_low = at_width EndsLow (λ x r. refl) (λ x r. refl) (λ x r. refl)

pub whole_metrics : MetricsAreWhole
whole_metrics w D key is = ap (λ n. NAME_REGIONS + n % D) (ap (λ l. slice_index l (w.metric - 1)) (key_parts w key) ∙ ends_low w.metric w.metric_fits key.metric _)

-- a byte that isn't there counts as 0
pub past_end : (xs : List ℕ) (i : ℕ) → length xs ≤ i → slice_index xs i ≡ 0
past_end [] i le = refl
past_end (x ∷ xs) zero le = absurd (omega (arith, le))
past_end (x ∷ xs) (suc i) le = past_end xs i (omega (arith, le))

pub last_at : (xs : List ℕ) → 1 ≤ length xs → slice_index_or xs (length xs - 1) 0 ≡ last_byte xs
last_at [] le = absurd (omega (arith, le))
last_at (b ∷ []) le = refl
last_at (b ∷ c ∷ bs) le =
    let step : length (b ∷ c ∷ bs) - 1 ≡ suc (length (c ∷ bs) - 1) = omega arith in
    ap (λ k. slice_index_or (b ∷ c ∷ bs) k 0) step ∙ last_at (c ∷ bs) (omega arith)
