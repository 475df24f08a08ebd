-- Lists of names and their ids.
use Rattle.std.proofs.Common.{◌≡◌, ℕ, ◌+◌, Bool, true, false, cond, List, [], ◌∷◌, ◌++◌, length, suc, Option, None, Some, refl, ap, ◌∙◌, arith}
use Rattle.std.specs.Prelude.{option_map}
use Rattle.std.specs.Option.{option_or}
use Rattle.tsd_base.specs.TagList.{is_same}
use Rattle.point_lines.specs.NameIds.{id_in}

next_map : (o : Option ℕ) (b : Bool) (k : ℕ) → option_map (λ id. id + 1) (option_or o (cond b (Some k) None)) ≡ option_or (option_map (λ id. id + 1) o) (cond b (Some (k + 1)) None)
next_map None true k = refl
next_map None false k = refl
next_map (Some v) true k = refl
next_map (Some v) false k = refl

longer : (n : ℕ) → n + 1 + 1 ≡ suc n + 1
longer n = omega arith

pub id_in-append : (names : List (List ℕ)) (n q : List ℕ) → id_in (names ++ n ∷ []) q ≡ option_or (id_in names q) (cond (is_same n q) (Some (length names + 1)) None)
id_in-append [] n q =
    elim (is_same n q) as (λ b. cond b (Some 1) None ≡ cond b (Some (0 + 1)) None) [
      | true ↦ refl
      | false ↦ refl
    ]
id_in-append (x ∷ names) n q =
    elim (is_same x q) as (λ b. cond b (Some 1) (option_map (λ id. id + 1) (id_in (names ++ n ∷ []) q)) ≡ option_or (cond b (Some 1) (option_map (λ id. id + 1) (id_in names q))) (cond (is_same n q) (Some (length (x ∷ names) + 1)) None)) [
      | true ↦ refl
      | false ↦ ap (option_map (λ id. id + 1)) (id_in-append names n q) ∙ next_map (id_in names q) (is_same n q) (length names + 1)
          ∙ ap (λ k. option_or (option_map (λ id. id + 1) (id_in names q)) (cond (is_same n q) (Some k) None)) (longer (length names))
    ]
