-- Values of a few bytes.
use Rattle.std.specs.Prelude.{ℕ, Bool, ◌||◌, List, nat_eq}
use Rattle.cell_blocks.specs.declared.small_value.Narrow.{Narrow}
use Rattle.cell_blocks.specs.declared.small_value.Wide.{Wide}
use Rattle.cell_blocks.specs.declared.small_value.Narrow.TheVariants.{One as NarrowOne, Two as NarrowTwo}
use Rattle.cell_blocks.specs.declared.small_value.Wide.TheVariants.{One, Two, Four, Eight}

abbrev pub narrow_bytes : Narrow → List ℕ
narrow_bytes (NarrowOne b) = b
narrow_bytes (NarrowTwo b) = b

abbrev pub is_narrow : ℕ → Bool
is_narrow n = nat_eq n 1 || nat_eq n 2

abbrev pub wide_bytes : Wide → List ℕ
wide_bytes (One b) = b
wide_bytes (Two b) = b
wide_bytes (Four b) = b
wide_bytes (Eight b) = b

abbrev pub is_wide : ℕ → Bool
is_wide n = is_narrow n || (nat_eq n 4 || nat_eq n 8)
