-- The only cell of a row, in a block of bytes.
use Rattle.std.specs.Prelude.{◌≡◌, ◌+◌, ◌≤◌, ℕ, List, take, drop, length}
use Rattle.std.specs.Int.{w64, from_le_bytes}
use Rattle.std.specs.FinMap.{empty, insert}
use Rattle.qual_codec.specs.declared.cells.Cell.{Cell}
use Rattle.packed_cells.specs.Keyed.{CellMap}

-- the cell whose qualifier has so many bytes of the block, and whose value has so many behind them
abbrev pub sole_cell : List ℕ → ℕ → ℕ → List ℕ → Cell
sole_cell version qual_len value_len bytes = record { qual = take qual_len bytes; value = take value_len (drop qual_len bytes); version = from_le_bytes w64 version }

-- both have their bytes within the block
pub record Fits (qual_len value_len : ℕ) (bytes : List ℕ) : Type 0 where
  pub room : length bytes ≡ 30
  pub within : qual_len + value_len ≤ 30

-- a cell as the map that has it alone
abbrev pub sole_map : Cell → CellMap
sole_map c = insert empty c.qual (c.value, c.version)
