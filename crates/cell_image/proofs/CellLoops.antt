-- Cells that are added one after the other.
use Rattle.std.proofs.Common.{◌≡◌, ℕ, zero, suc, ◌+◌, ◌<◌, ◌≤◌, Bool, true, false, List, [], ◌∷◌, ◌++◌, drop, length, get_or, refl, sym, ap, ◌∙◌, append_assoc, append-nil, arith}
use Rattle.std.specs.Prelude.{None, Some, not, position}
use Rattle.std.specs.List.{list_any}
use Rattle.std.specs.Option.{option_map}
use Rattle.std.proofs.lemmas.List.{drop_all, drop_more}
use Rattle.std.proofs.lemmas.Bool.{or_parts}
use Rattle.list_lemmas.proofs.FirstPlaces.{list_any-no_position}
use Rattle.cell_model.specs.declared.row.ListLine.{ListLine}
use Rattle.cell_image.specs.Images.{cell_image, cells_image, first_large, fits}
use Rattle.std.specs.Prelude.{Option}

-- one more cell was added
pub pushed_on : (bytes bytes' all : List ℕ) (cells : List ListLine) (i : ℕ) (c : ListLine) → i < length cells → c ≡ get_or cells i c → bytes ++ cells_image (drop i cells) ≡ all → bytes' ≡ bytes ++ cell_image c
    → bytes' ++ cells_image (drop (i + 1) cells) ≡ all
pushed_on bytes bytes' all cells i c lt is inv e =
    let rest : drop i cells ≡ c ∷ drop (i + 1) cells = drop_more cells i c lt ∙ (λ t. sym is t ∷ drop (i + 1) cells) in
    ap (λ xs. xs ++ cells_image (drop (i + 1) cells)) e ∙ append_assoc bytes (cell_image c) (cells_image (drop (i + 1) cells)) ∙ ap (λ xs. bytes ++ xs) (sym (ap cells_image rest)) ∙ inv

-- all were
pub pushed_all : (bytes all : List ℕ) (cells : List ListLine) (i : ℕ) → length cells ≤ i → bytes ++ cells_image (drop i cells) ≡ all → bytes ≡ all
pushed_all bytes all cells i end inv = sym (append-nil bytes) ∙ ap (λ (cs : List ListLine). bytes ++ cells_image cs) (sym (drop_all i cells end)) ∙ inv

not_not : (b : Bool) → not b ≡ false → b ≡ true
not_not true e = refl
not_not false e = absurd cc

none_large : (cells : List ListLine) → first_large cells ≡ None → None ≡ position (λ c. not (fits c)) cells
none_large cells e = at (position (λ c. not (fits c)) cells) e
  where
    at : (place : Option ℕ) → option_map (λ k. k + 1) place ≡ None → None ≡ place
    at None h = refl
    at (Some k) h = absurd cc

-- each cell fits where there is no first one that doesn't
pub each_fits : (cells : List ListLine) → first_large cells ≡ None → (i : ℕ) (c : ListLine) → i < length cells → c ≡ get_or cells i c → fits c ≡ true
each_fits cells e i c lt is = ap fits is ∙ among cells (list_any-no_position (λ c. not (fits c)) cells (none_large cells e)) i lt
  where
    among : (all : List ListLine) → list_any (λ c. not (fits c)) all ≡ false → (k : ℕ) → k < length all → fits (get_or all k c) ≡ true
    among [] h k l = absurd (omega (arith, l))
    among (d ∷ all) h zero l = not_not (fits d) (or_parts (not (fits d)) (list_any (λ c. not (fits c)) all) h).0
    among (d ∷ all) h (suc k) l = among all (or_parts (not (fits d)) (list_any (λ c. not (fits c)) all) h).1 k (omega (arith, l))
