-- Cells at even steps of time: their qualifiers follow from their places.
use Rattle.std.specs.Prelude.{◌≡◌, ℕ, ◌+◌, ◌*◌, ◌/◌, ◌%◌, ◌<◌, ◌≤◌, List, [], ◌∷◌, length, Option, None, Some, slice_index_or}
use Rattle.std.specs.Int.{w16, w64, to_be_bytes, from_le_bytes}
use Rattle.qual_codec.specs.declared.cells.Cell.{Cell}
use Rattle.packed_cells.specs.declared.even_cells.EvenSlot.{EvenSlot}
use Rattle.packed_cells.specs.declared.even_cells.EvenValue.{EvenValue}
use Rattle.packed_cells.specs.declared.even_cells.EvenValue.TheVariants.{One, Two, Gone}

-- the qualifier of a second of the hour: twelve bits of it and four bits of flags
abbrev pub second_qual : ℕ → ℕ → List ℕ
second_qual offset flags = to_be_bytes w16 (16 * offset + flags)

-- the flags of a value's qualifier; of none they are no flags
abbrev pub flags_in : EvenValue → ℕ
flags_in (One b) = 0
flags_in (Two b) = 1
flags_in Gone = 16

abbrev pub bytes_in : EvenValue → List ℕ
bytes_in (One b) = b
bytes_in (Two b) = b
bytes_in Gone = []

-- the cell of a value at this second, if there is one
abbrev pub value_cell : EvenValue → ℕ → ℕ → Option Cell
value_cell (One b) offset version = Some (record { qual = second_qual offset 0; value = b; version = version })
value_cell (Two b) offset version = Some (record { qual = second_qual offset 1; value = b; version = version })
value_cell Gone offset version = None

abbrev pub even_cell : ℕ → EvenSlot → Option Cell
even_cell offset s = value_cell s.value offset (from_le_bytes w64 s.version)

-- what stands at each step
abbrev pub places : ℕ → ℕ → List EvenSlot → List (Option Cell)
places offset step [] = []
places offset step (s ∷ ss) = even_cell offset s ∷ places (offset + step) step ss

-- the cells that are there
abbrev pub present : List (Option Cell) → List Cell
present [] = []
present (None ∷ os) = present os
present (Some c ∷ os) = c ∷ present os

abbrev pub even_cells : ℕ → ℕ → List EvenSlot → List Cell
even_cells first step slots = present (places first step slots)

-- so many steps fit twelve bits
pub record IsGrid (first step count : ℕ) : Type 0 where
  pub forward : 1 ≤ step
  pub short : step ≤ 4095
  pub fits : first + count * step ≤ 4095 + step

-- the next step, and how many places have no cell
pub record IsEven (first step next holes : ℕ) (slots : List EvenSlot) : Type 0 where
  pub grid : IsGrid first step (length slots)
  pub ends : next ≡ first + length slots * step
  pub lacking : holes + length (even_cells first step slots) ≡ length slots

-- the cell of a qualifier, which is a number of two bytes, stands in the slot at p
pub record IsSlotAt (first step : ℕ) (slots : List EvenSlot) (qual : List ℕ) (number p : ℕ) : Type 0 where
  pub two : to_be_bytes w16 number ≡ qual
  pub in_range : p < length slots
  pub offset : first + p * step ≡ number / 16
  pub flags : (d : EvenSlot) → flags_in (slice_index_or slots p d).value ≡ number % 16
