-- Cells that are gathered one after the other.
use Rattle.std.proofs.Common.{◌≡◌, ℕ, suc, ◌+◌, Bool, true, false, cond, List, [], ◌∷◌, ◌++◌, length, refl, sym, ap, ◌∙◌, append-nil, length-append, arith}
use Rattle.std.specs.Prelude.{Option, None, Some, is_some, not, nat_lt, option_map, Result, Ok, Err, OnOk}
use Rattle.std.specs.List.{position_or_len}
use Rattle.std.proofs.lemmas.Bool.Decides.{nat_tests}
use Rattle.std.proofs.lemmas.Grind.{flat_map-append}
use Rattle.cell_model.specs.declared.row.ListLine.{ListLine}
use Rattle.cell_image.specs.Images.{cell_image, cells_image, first_large, fits}
use Rattle.cell_image.specs.StoreImages.{AddsLine, large_with}
use Rattle.cell_image.specs.declared.image_cells.ImageCells.{ImageCells}

abbrev large : ListLine → Bool
large c = not (fits c)

one_further : (b : Bool) (m n : ℕ) → b ≡ nat_lt m n → b ≡ nat_lt (1 + m) (suc n)
one_further b m n e = grind (arith, nat_tests)

first_at_once : (n : ℕ) → true ≡ nat_lt 0 (suc n)
first_at_once n = grind (arith, nat_tests)

-- the number of a place that was found or wasn't, behind one more cell
numbered : (b : Bool) (m : ℕ) → option_map (λ (at : ℕ). at + 1) (cond b (Some (1 + m)) None) ≡ option_map (λ (n : ℕ). n + 1) (option_map (λ (at : ℕ). at + 1) (cond b (Some m) None))
numbered true m = ap Some (omega arith)
numbered false m = refl

-- behind a cell that fits each has the next number
behind_fitting : (c : ListLine) (cs : List ListLine) → fits c ≡ true → first_large (c ∷ cs) ≡ option_map (λ (n : ℕ). n + 1) (first_large cs)
behind_fitting c cs is =
    let m = position_or_len large cs in
    let found = nat_lt m (length cs) in
    ap (λ (b : Bool). option_map (λ (at : ℕ). at + 1) (cond (nat_lt (cond (not (not b)) (1 + m) 0) (suc (length cs))) (Some (cond (not (not b)) (1 + m) 0)) None)) is
    ∙ ap (λ (b : Bool). option_map (λ (at : ℕ). at + 1) (cond b (Some (1 + m)) None)) (sym (one_further found m (length cs) refl)) ∙ numbered found m

-- one that doesn't fit is the first
at_large : (c : ListLine) (cs : List ListLine) → fits c ≡ false → first_large (c ∷ cs) ≡ Some 1
at_large c cs is =
    let m = position_or_len large cs in
    ap (λ (b : Bool). option_map (λ (at : ℕ). at + 1) (cond (nat_lt (cond (not (not b)) (1 + m) 0) (suc (length cs))) (Some (cond (not (not b)) (1 + m) 0)) None)) is
    ∙ ap (λ (b : Bool). option_map (λ (at : ℕ). at + 1) (cond b (Some 0) None)) (sym (first_at_once (length cs)))

with_next : (o : Option ℕ) (n : ℕ) (b : Bool) → option_map (λ (m : ℕ). m + 1) (large_with o n b) ≡ large_with (option_map (λ (m : ℕ). m + 1) o) (n + 1) b
with_next (Some m) n b = refl
with_next None n true = refl
with_next None n false = refl

-- the first that is too large, with one more cell behind
first_behind : (cs : List ListLine) (c : ListLine) → first_large (cs ++ c ∷ []) ≡ large_with (first_large cs) (length cs + 1) (fits c)
first_behind [] c = at (fits c) refl
  where
    at : (b : Bool) → fits c ≡ b → first_large (c ∷ []) ≡ large_with None 1 (fits c)
    at true is = behind_fitting c [] is ∙ ap (large_with None 1) (sym is)
    at false is = at_large c [] is ∙ ap (large_with None 1) (sym is)
first_behind (d ∷ cs) c = at (fits d) refl (first_behind cs c)
  where
    at : (b : Bool) → fits d ≡ b → first_large (cs ++ c ∷ []) ≡ large_with (first_large cs) (length cs + 1) (fits c) → first_large (d ∷ (cs ++ c ∷ [])) ≡ large_with (first_large (d ∷ cs)) (suc (length cs) + 1) (fits c)
    at true is go =
        behind_fitting d (cs ++ c ∷ []) is ∙ ap (option_map (λ (n : ℕ). n + 1)) go ∙ with_next (first_large cs) (length cs + 1) (fits c)
        ∙ ap (λ (o : Option ℕ). large_with o (length cs + 1 + 1) (fits c)) (sym (behind_fitting d cs is)) ∙ ap (λ (n : ℕ). large_with (first_large (d ∷ cs)) n (fits c)) (omega arith)
    at false is go = at_large d (cs ++ c ∷ []) is ∙ ap (λ (o : Option ℕ). large_with o (suc (length cs) + 1) (fits c)) (sym (at_large d cs is))

-- none is where the one with one more cell behind has none, and then that one fits
with_none : (o : Option ℕ) (n : ℕ) (b : Bool) → large_with o n b ≡ None → (o ≡ None) × (b ≡ true)
with_none (Some m) n b e = absurd cc
with_none None n true e = (refl, refl)
with_none None n false e = absurd cc

pub is_fitting : (found : Option ℕ) (number : ℕ) (c : ListLine) (o : Option ℕ) → o ≡ large_with found number (fits c) → o ≡ None → fits c ≡ true
is_fitting found number c o is none = (with_none found number (fits c) (sym is ∙ none)).1

pub some_is : (o : Option ℕ) → is_some o ≡ true → o ≡ None → ⊥
some_is None e none = cc
some_is (Some n) e none = cc

pub none_is : (o : Option ℕ) → is_some o ≡ false → o ≡ None
none_is None e = refl
none_is (Some n) e = absurd cc

pub ok_map : {T E : Type 0} (r : Result T E) (A B : Type 0) → (A → B) → OnOk r A → OnOk r B
ok_map (Ok x) A B f a = f a
ok_map (Err e) A B f a = tt

-- one more was gathered
pub gathered_on : (line : ListLine) (old new : ImageCells) → new.number ≡ old.number + 1 → new.large ≡ large_with old.large (old.number + 1) (fits line) → (new.large ≡ None → new.cells.items ≡ old.cells.items ++ cell_image line) → AddsLine line old new
gathered_on line old new number_is large_is cells_are before holds = record {
  number = number_is ∙ ap (λ (n : ℕ). n + 1) holds.number ∙ sym (length-append before (line ∷ []));
  large = large_is ∙ (λ i. large_with (holds.large i) (holds.number i + 1) (fits line)) ∙ sym (first_behind before line);
  cells = λ none. cells_are none ∙ ap (λ (bytes : List ℕ). bytes ++ cell_image line) (holds.cells (with_none old.large (old.number + 1) (fits line) (sym large_is ∙ none)).0)
      ∙ ap (λ (bytes : List ℕ). cells_image before ++ bytes) (sym (append-nil (cell_image line))) ∙ sym (flat_map-append cell_image before (line ∷ []));
}
