-- Cells of one form behind one another.
use Rattle.std.specs.Prelude.{◌≡◌, ℕ, ◌<◌, ◌-◌, List, length, map, slice_index_or}
use Rattle.std.specs.Int.{w64, from_le_bytes}
use Rattle.qual_codec.specs.declared.cells.Cell.{Cell}
use Rattle.cell_blocks.specs.declared.strip.Slot.{Slot}

-- the cell that a slot holds
abbrev pub slot_cell : {V : Type 0} → (V → List ℕ) → Slot V → Cell
slot_cell bytes s = record { qual = s.qual; value = bytes s.value; version = from_le_bytes w64 s.version }

abbrev pub slot_cells : {V : Type 0} → (V → List ℕ) → List (Slot V) → List Cell
slot_cells bytes slots = map (slot_cell bytes) slots

-- the last cell, if there is one, has this qualifier
abbrev pub EndsWith : List ℕ → List Cell → Type 0
EndsWith last cells = 0 < length cells → (d : Cell) → (slice_index_or cells (length cells - 1) d).qual ≡ last
