-- What the values of some points make.
use Rattle.std.proofs.Common.{◌≡◌, ℕ, suc, ◌+◌, ◌-◌, ◌<◌, ℤ, List, [], ◌∷◌, ◌++◌, length, take, get_or, map, sym, ap, subst, ◌∙◌, arith}
use Rattle.std.proofs.Math.Seq.{take-suc}
use Rattle.std.proofs.lemmas.List.{map_push}
use Rattle.std.specs.Prelude.{Some, fold, slice_get}
use Rattle.std.proofs.lemmas.Option.{none-some, same_Some}
use Rattle.tsd_base.specs.declared.kinds.Function.TheVariants.{Last}
use Rattle.downsample.specs.Buckets.{value_of}
use Rattle.lerp_aggregate.specs.declared.tally.Tally.{Tally}
use Rattle.lerp_aggregate.specs.Tally.{Counts, Adds}

-- the values of points
abbrev pub values_of : List (ℕ × ℤ) → List ℤ
values_of points = map (λ p. p.1) points

pub counts_next : (points : List (ℕ × ℤ)) (i : ℕ) (d : ℕ × ℤ) (v : ℤ) (old new : Tally) → i < length points → v ≡ (get_or points i d).1 → Counts old (values_of (take i points)) → Adds old new (v ∷ []) → Counts new (values_of (take (i + 1) points))
counts_next points i d v old new inside is counts adds =
    let next : i + 1 ≡ suc i = omega arith in
    let more : values_of (take i points) ++ v ∷ [] ≡ values_of (take (i + 1) points) =
    ap (λ (w : ℤ). values_of (take i points) ++ w ∷ []) is ∙ sym (map_push (λ (p : ℕ × ℤ). p.1) (take i points) (get_or points i d))
    ∙ ap values_of (sym (take-suc points i d inside)) ∙ ap (λ (n : ℕ). values_of (take n points)) (sym next) in
    subst (Counts new) more (adds.adds (values_of (take i points)) counts)

fold_last : (points : List (ℕ × ℤ)) (q p : ℕ × ℤ) → Some p ≡ slice_get (q ∷ points) (length points) → fold (λ (earlier later : ℤ). later) q.1 (values_of points) ≡ p.1
fold_last [] q p e = ap (λ (r : ℕ × ℤ). r.1) (sym (same_Some _ _ e))
fold_last (r ∷ points) q p e = fold_last points r p e

pub last_value : (points : List (ℕ × ℤ)) (p : ℕ × ℤ) → Some p ≡ slice_get points (length points - 1) → value_of Last (values_of points) ≡ Some p.1
last_value [] p e = absurd (none-some p (sym e))
last_value (q ∷ points) p e = ap Some (fold_last points q p (e ∙ ap (slice_get (q ∷ points)) (omega arith)))
