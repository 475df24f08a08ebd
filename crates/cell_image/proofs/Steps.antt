-- The steps in which an image is read, each as a function of what was read before.
use Rattle.std.proofs.Common.{◌≡◌, ℕ, List, refl, ap, ◌∙◌}
use Rattle.std.specs.Prelude.{Result, Ok, Err}
use Rattle.std.specs.Int.{w16, w32, w64}
use Rattle.row_key.specs.declared.tables.Table.{Table}
use Rattle.cell_model.specs.declared.row.ListLine.{ListLine}
use Rattle.cell_image.specs.ImageReads.{◌>>=◌, Spot, number_read, part_read, widths_read}
use Rattle.cell_image.specs.declared.image_fault.ImageFault.{ImageFault}

-- what was read, and what comes after it
pub on : {A B : Type 0} (r : Result A ImageFault) (f : A → Result B ImageFault) (x : A) (y : Result B ImageFault) → r ≡ Ok x → f x ≡ y → (r >>= f) ≡ y
on r f x y e h = ap (λ s. s >>= f) e ∙ h

pub record Read {A B : Type 0} (r : Result A ImageFault) (f : A → Result B ImageFault) (y : B) : Type 0 where
  pub first : A
  pub is : r ≡ Ok first
  pub then : f first ≡ Ok y

pub parts_of : {A B : Type 0} (r : Result A ImageFault) (f : A → Result B ImageFault) (y : B) → (r >>= f) ≡ Ok y → Read r f y
parts_of (Ok x) f y e = record { first = x; is = refl; then = e }
parts_of (Err fault) f y e = absurd cc

pub same_Ok : {A : Type 0} (x y : A) → ◌≡◌ {A = Result A ImageFault} (Ok x) (Ok y) → x ≡ y
same_Ok x y e = cc

-- ---- a cell
abbrev pub with_value : Table → List ℕ → List ℕ → List ℕ × Spot → Result (ListLine × Spot) ImageFault
with_value t row qual value = Ok (record { table = t; row = row; qual = qual; value = value.0 }, value.1)

abbrev pub with_qual : Table → List ℕ → List ℕ × Spot → Result (ListLine × Spot) ImageFault
with_qual t row qual = part_read w32 qual.1 >>= with_value t row qual.0

abbrev pub with_row : Table → List ℕ × Spot → Result (ListLine × Spot) ImageFault
with_row t row = part_read w32 row.1 >>= with_qual t row.0

abbrev pub with_table : Table × Spot → Result (ListLine × Spot) ImageFault
with_table t = part_read w16 t.1 >>= with_row t.0

-- ---- the head
abbrev pub with_number : List ℕ → ℕ × Spot → Result ((List ℕ × ℕ) × Spot) ImageFault
with_number widths number = Ok ((widths, number.0), number.1)

abbrev pub with_widths : List ℕ × Spot → Result ((List ℕ × ℕ) × Spot) ImageFault
with_widths widths = number_read w64 widths.1 >>= with_number widths.0

abbrev pub with_mark : Unit {0} × Spot → Result ((List ℕ × ℕ) × Spot) ImageFault
with_mark begun = widths_read begun.1 >>= with_widths
